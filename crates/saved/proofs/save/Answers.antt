-- `saved::save` meets its contract.
use mathlib.Core.Path.{◌≡◌, sym, ap, ◌∙◌}
use Prim.Native.Nat.{ℕ, ◌+◌, ◌<◌, ◌≤◌}
use native.Mathlib.Omega.{arith}
use Rattle.std.specs.Prelude.{Option, Some, None, Err}
use Rattle.std.specs.Option.{ok_or}
use Rattle.std.proofs.lemmas.Result.{err_from_is_err_and}
use Rattle.saved.specs.declared.Refusal.{Refusal}
use Rattle.rules.proofs.Kept.{possible_parts}
use Rattle.saved.proofs.Running.{last_ok, save_refused, store_length, save_over, save_next}
use Rattle.saved.proofs.save.Goals as goal

refused_with : (o : Option ℕ) {x y : Refusal} → o ≡ None → Err x ≡ ok_or o y → x ≡ y
refused_with None e h = cc
refused_with (Some n) e h = cc

below : {n : ℕ} → (n + 1 < 65536 → ⊥) → 65535 ≤ n
below h = omega arith

pub returns-in_err-last_of : goal.returns-in_err-last_of
returns-in_err-last_of c =
    let p = err_from_is_err_and c.from_residual.result c.from_residual.ensures.1 in
    rw (p.1, p.2) (save_refused c.args.state c.args.store.now (sym c.in_err-last_of.ensures))

pub returns-in_err-number : goal.returns-in_err-number
returns-in_err-number c =
    let l = last_ok c.args.state c.args.store.now (sym c.in_ok-last_of.ensures) in
    let p = err_from_is_err_and c.from_residual-in_err-number.result c.from_residual-in_err-number.ensures.1 in
    let n = rw c.in_err-number.ensures.ok_part at c.checked_add.ensures in
    let full = refused_with c.checked_add.result c.in_err-number.ensures.ok_part c.in_err-number.ensures.value in
    rw (p.1, p.2, full) (save_over _ _ l.0 l.1.0 l.1.1 (below n))

pub save_as-requires : goal.save_as-requires
save_as-requires c =
    let l = last_ok c.args.state c.args.store.now (sym c.in_ok-last_of.ensures) in
    let k = (possible_parts c.args.state l.0).setup in
    let s = rw c.in_ok-number.ensures.ok_part at c.checked_add.ensures in
    ((k.keys, k.labels), (store_length c.args.store.now l.1.0, s.1 ∙ ap (λ (n : ℕ). n + 1) l.1.1))

pub returns : goal.returns
returns c =
    let l = last_ok c.args.state c.args.store.now (sym c.in_ok-last_of.ensures) in
    let s = rw c.in_ok-number.ensures.ok_part at c.checked_add.ensures in
    rw s.1 (save_next _ _ l.0 l.1.0 l.1.1 (omega (arith, s.0)) c.save_as.ensures)
