-- `saved::store::restore_from` meets its contract.
use mathlib.Core.Path.{refl, ap, ◌∙◌}
use mathlib.Core.List.{List}
use Prim.Native.Nat.{ℕ, ◌+◌, ◌-◌, ◌*◌, ◌%◌}
use native.Mathlib.Omega.{arith}
use lib.ListN.{drop, length-take, length-drop}
use Rattle.rules.specs.declared.Setup.{Setup}
use Rattle.saved.specs.Settings.{fed, with_settings, with_setup}
use Rattle.saved.specs.Store.{setup_in}
use Rattle.saved.specs.Calls.{restored}
use Rattle.saved.proofs.Running.{number_range, store_length, place_part, number_short}
use Rattle.saved.proofs.store.restore_from.Goals as goal

pub overflow_sub-at : goal.overflow_sub-at
unfolding restored
overflow_sub-at c =
    let x = c.args in
    let store = x.store.now in
    let r = number_range store x.n c.requires.0 c.requires.1 in
    let size = store_length store c.requires.0 in
    omega (arith, r)

pub slice_bounds-restore_place-end : goal.slice_bounds-restore_place-end
unfolding restored
slice_bounds-restore_place-end c =
    let x = c.args in
    let store = x.store.now in
    let r = number_range store x.n c.requires.0 c.requires.1 in
    let size = store_length store c.requires.0 in
    omega (arith, size)

pub restore_place-setup-requires : goal.restore_place-setup-requires
unfolding restored
restore_place-setup-requires c =
    let x = c.args in
    let store = x.store.now in
    let r = number_range store x.n c.requires.0 c.requires.1 in
    let size = store_length store c.requires.0 in
    let at = 2 + 1089 * ((x.n - 1) % 8) in
    let p = place_part store ((x.n - 1) % 8) at (at + 1089 - at) (omega arith) refl (omega arith) in (
      omega (arith, size, length-take (at + 1089 - at) (drop at store), length-drop at store),
      rw p
          (number_short store x.n c.requires.0 c.requires.1),
    )

pub returns : goal.returns
unfolding restored
returns c =
    let x = c.args in
    let store = x.store.now in
    let r = number_range store x.n c.requires.0 c.requires.1 in
    let size = store_length store c.requires.0 in
    let at = 2 + 1089 * ((x.n - 1) % 8) in
    let p = place_part store ((x.n - 1) % 8) at (at + 1089 - at) (omega arith) refl (omega arith) in
    ap (λ (u : Setup). with_setup x.state u)
    (c.restore_place-setup.ensures ∙ ap (λ (z : List ℕ). with_settings (fed x.state.core.personality (setup_in z)) x.state.setup) p)
