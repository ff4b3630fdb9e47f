-- `saved::bytes::put_text` meets its contract.
use mathlib.Core.Path.{◌≡◌, ap}
use Prim.Native.Nat.{ℕ, ◌-◌}
use native.Mathlib.Omega.{arith}
use lib.ListN.{length, take}
use Rattle.saved.proofs.Setups.{text_size}
use Rattle.saved.proofs.Puts.{text_put}
use borrow.Author.Rules.{rules}
use Rattle.saved.proofs.bytes.put_text.Goals as goal

pub put-a-requires : goal.put-a-requires
put-a-requires c =
    let x = c.args in omega
    (arith, text_size x.end x.value x.t, c.requires)

pub slice_bounds-put-end-2 : goal.slice_bounds-put-end-2
slice_bounds-put-end-2 c =
    let e : length c.args.t.bytes ≡ 8 = search rules in
    omega (arith, e, c.requires)

pub put-b-requires : goal.put-b-requires
put-b-requires c =
    let x = c.args in
    let e : x.t.len - 0 ≡ x.t.len = omega arith in
    omega (
      arith,
      text_size x.end x.value x.t,
      c.requires,
      c.put-a.ensures.place,
      c.put-a.auto.out,
      ap
          (λ (n : ℕ). length (take n x.t.bytes)) e,
    )

pub put-requires : goal.put-requires
put-requires c =
    let x = c.args in
    let e : x.t.len - 0 ≡ x.t.len = omega arith in
    omega (
      arith,
      text_size x.end x.value x.t,
      c.requires,
      c.put-a.ensures.place,
      c.put-b.ensures.place,
      c.put-a.auto.out,
      c.put-b.auto.out,
      ap (λ (n : ℕ). length (take n x.t.bytes)) e,
    )

pub returns : goal.returns
returns c =
    let x = c.args in
    let e : x.t.len - 0 ≡ x.t.len = omega arith in
    text_put x.end x.value x.t (ap (λ (n : ℕ). take n x.t.bytes) e)
    c.put-a.ensures
    c.put-b.ensures c.put.ensures
