-- `saved::store::is_place` meets its contract.
use mathlib.Core.Path.{◌≡◌, refl, sym, ap, ◌∙◌}
use mathlib.Core.Bool.{true, false, false≢true}
use Prim.Native.Nat.{ℕ, ◌+◌}
use native.Mathlib.Omega.{arith}
use borrow.Author.Tests.{lt-leb}
use lib.ListN.{take, drop}
use Rattle.saved.specs.Store.{all_zero, is_setup}
use Rattle.saved.proofs.Running.{place_long, place_dirty, place_rest, behind, inside}
use Rattle.saved.proofs.store.is_place.Goals as goal
use Rattle.saved.proofs.store.is_place.Goals.{then-n-le1087, else-n-le1087}

pub two_at-n-requires : goal.two_at-n-requires
two_at-n-requires c = omega (arith, c.requires)

pub returns-then-all_zero : goal.returns-then-all_zero
returns-then-all_zero c =
    let p = c.args.p.now in
    let n = c.two_at-n.result in
    let e = c.two_at-n.ensures in
    let z = c.if-all_zero.true in
    elim c.if-n-le1087.branch [
      | then-n-le1087 w ↦
          let h : all_zero (drop n (drop 2 p)) ≡ true = sym (w.all_zero.ensures ∙ ap all_zero (behind p n (2 + n) _ refl refl)) ∙ (sym w.value-is ∙ z) in
          c.is_setup.ensures ∙ (ap is_setup (inside p n (2 + n) _ refl refl) ∙ (ap (λ (k : ℕ). is_setup (take k (drop 2 p))) e
          ∙ sym (place_rest p (omega (arith, e, w.if-n-le1087.true)) (ap (λ (k : ℕ). all_zero (drop k (drop 2 p))) (sym e) ∙ h))))
      | else-n-le1087 w ↦ absurd (false≢true (sym (w.value-is ∙ lt-leb n 1087 w.if-n-le1087.false) ∙ z))
    ]

pub returns-else-all_zero : goal.returns-else-all_zero
returns-else-all_zero c =
    let p = c.args.p.now in
    let n = c.two_at-n.result in
    let e = c.two_at-n.ensures in
    let z = c.if-all_zero.false in
    elim c.if-n-le1087.branch [
      | then-n-le1087 w ↦
          let h : all_zero (drop n (drop 2 p)) ≡ false = sym (w.all_zero.ensures ∙ ap all_zero (behind p n (2 + n) _ refl refl)) ∙ (sym w.value-is ∙ z) in
          z ∙ sym (place_dirty p (omega (arith, e, w.if-n-le1087.true)) (ap (λ (k : ℕ). all_zero (drop k (drop 2 p))) (sym e) ∙ h))
      | else-n-le1087 w ↦ z ∙ sym (place_long p (omega (arith, e, w.if-n-le1087.false)))
    ]
