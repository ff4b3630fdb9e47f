-- `saved::store::save_as` meets its contract.
use mathlib.Core.Path.{refl, ◌∙◌}
use Prim.Native.Nat.{◌+◌, ◌-◌, ◌*◌, ◌%◌}
use native.Mathlib.Omega.{arith}
use lib.ListN.{drop, length-take, length-drop}
use borrow.Rule.Slice.PartMut.{same_len_mid}
use Rattle.saved.specs.SetupBytes.{setup_bytes}
use Rattle.saved.proofs.Running.{place_over, place_made, store_saved}
use Rattle.saved.proofs.store.save_as.Goals as goal

pub encode-len-requires : goal.encode-len-requires
encode-len-requires c = (c.requires.0, omega arith)

pub overflow_cast-len : goal.overflow_cast-len
overflow_cast-len c = omega (arith, c.encode-len.ensures.1)

pub overflow_sub-at : goal.overflow_sub-at
overflow_sub-at c = omega (arith, c.requires.1)

pub slice_bounds-write_place-end : goal.slice_bounds-write_place-end
slice_bounds-write_place-end c = omega (arith, c.requires.1)

pub write_place-requires : goal.write_place-requires
write_place-requires c =
    let x = c.args in
    let store = x.store.now in
    let at = 2 + 1089 * ((x.n - 1) % 8) in (
      omega (arith, c.requires.1, length-take (at + 1089 - at) (drop at store), length-drop at store),
      c.encode-len.auto.out,
    )

pub write_two-requires : goal.write_two-requires
write_two-requires c =
    let x = c.args in
    let store = x.store.now in
    let at = 2 + 1089 * ((x.n - 1) % 8) in
    omega (
      arith,
      c.requires.1,
      same_len_mid at (at + 1089 - at) store
          c.write_place.new.p c.write_place.auto.p,
    )

pub returns : goal.returns
returns c =
    let x = c.args in
    let store = x.store.now in
    let at = 2 + 1089 * ((x.n - 1) % 8) in
    store_saved (setup_bytes x.u) store x.n at (at + 1089)
    c.requires.1.0
    c.requires.1.1 refl refl
    (place_over store at (at + 1089) (at + 1089 - at) (omega arith)
    (c.write_place.ensures
    ∙ place_made c.encode-len.ensures.0 refl
    c.encode-len.ensures.1))
    c.write_two.ensures
