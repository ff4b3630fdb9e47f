-- `saved::store::restore_place` meets its contract.
use mathlib.Core.Path.{refl, ap, ◌∙◌}
use mathlib.Core.List.{List}
use Prim.Native.Nat.{ℕ, ◌+◌}
use native.Mathlib.Omega.{arith}
use lib.ListN.{take, drop}
use Rattle.saved.specs.Settings.{fed, with_settings}
use Rattle.saved.proofs.Running.{inside}
use Rattle.saved.proofs.store.restore_place.Goals as goal

pub two_at-requires : goal.two_at-requires
two_at-requires c = omega (arith, c.requires.0)

pub slice_bounds-with_settings-end : goal.slice_bounds-with_settings-end
slice_bounds-with_settings-end c = omega (arith, c.requires, c.two_at.ensures)

pub returns : goal.returns
returns c =
    let p = c.args.p.now in
    let n = c.two_at.result in
    c.with_settings.ensures
    ∙ (ap (λ (z : List ℕ). with_settings (fed c.args.m z) c.args.u)
    (inside p n (2 + n) _ refl refl)
    ∙ ap (λ (k : ℕ). with_settings (fed c.args.m (take k (drop 2 p))) c.args.u)
    c.two_at.ensures)
