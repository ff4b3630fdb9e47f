-- `saved::feeding::join_stops` meets its contract.
use mathlib.Core.Path.{◌≡◌, ap}
use native.Mathlib.Omega.{arith}
use lib.ListN.{length, length-take}
use borrow.Author.Rules.{rules}
use Rattle.std.specs.Prelude.{Bool, List, ◌++◌, drop}
use Rattle.saved.proofs.feeding.join_stops.Goals as goal

pub slice_bounds-copy_from_slice-end : goal.slice_bounds-copy_from_slice-end
slice_bounds-copy_from_slice-end c = let e : length c.args.beyond ≡ 132 = search rules in omega (arith, e, length-take 80 c.args.beyond)

pub slice_bounds-copy_from_slice-end-2 : goal.slice_bounds-copy_from_slice-end-2
slice_bounds-copy_from_slice-end-2 c = let e : length c.args.from ≡ 132 = search rules in omega (arith, e, length-take 80 c.args.from)

pub copy_from_slice-requires : goal.copy_from_slice-requires
copy_from_slice-requires c =
    let d : length c.args.beyond ≡ 132 = search rules in
    let e : length c.args.from ≡ 132 = search rules in
    omega (arith, d, e, length-take 80 c.args.beyond, length-take 80 c.args.from)

pub returns : goal.returns
returns c = ap (λ (l : List Bool). l ++ drop 80 c.args.beyond) c.copy_from_slice.ensures.after
