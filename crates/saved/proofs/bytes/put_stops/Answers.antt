-- `saved::bytes::put_stops` meets its contract.
use mathlib.Core.Bool.{false}
use mathlib.Core.Path.{◌≡◌}
use native.Mathlib.Omega.{arith}
use lib.ListN.{length, length-take, take}
use Rattle.saved.specs.SetupBytes.{stop_bytes}
use Rattle.saved.proofs.Puts.{begin, fits, go, finish, stop_piece, stops_none, stops_more}
use borrow.Author.Rules.{rules}
use Rattle.saved.proofs.bytes.put_stops.Goals as goal

pub slice_bounds-stop-items-end : goal.slice_bounds-stop-items-end
slice_bounds-stop-items-end c = let e : length c.args.tabs ≡ 132 = search rules in omega (arith, e, length-take 80 c.args.tabs)

pub loop-i-init : goal.loop-i-init
loop-i-init c = let x = c.args in begin stop_bytes stop_piece stops_none stops_more (take 80 x.tabs) x.start x.out.now

pub overflow_cast-i : goal.overflow_cast-i
overflow_cast-i c = let e : length c.args.tabs ≡ 132 = search rules in omega (arith, c.loop-i-test.true, e, length-take 80 c.args.tabs)

pub put_stop-n-requires : goal.put_stop-n-requires
put_stop-n-requires c =
    let x = c.args in
    let e : length x.tabs ≡ 132 = search rules in (
      omega (arith, c.loop-i-test.true, e, length-take 80 x.tabs),
      fits stop_bytes stop_piece stops_none stops_more false c.loop-i.invariant c.loop-i-test.true c.requires,
    )

pub loop-i-preserved : goal.loop-i-preserved
loop-i-preserved c =
    go stop_bytes stop_piece stops_none stops_more false c.loop-i.invariant c.loop-i-test.true c.put_stop-n.ensures c.put_stop-n.auto.out

pub shape_of-out : goal.shape_of-out
shape_of-out c = c.loop-i.invariant.long

pub returns : goal.returns
returns c = finish stop_bytes stop_piece stops_none stops_more false c.loop-i.invariant c.loop-i-test.false
