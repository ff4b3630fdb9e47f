-- `saved::restore` meets its contract.
use mathlib.Core.Path.{sym, ap, ◌∙◌}
use Prim.Native.Nat.{ℕ}
use Rattle.std.proofs.lemmas.Result.{err_from_is_err_and}
use Rattle.saved.specs.Calls.{restorable}
use Rattle.saved.proofs.Running.{last_ok, restore_refused, restore_none, restore_some}
use Rattle.saved.proofs.restore.Goals as goal

pub returns-in_err-last : goal.returns-in_err-last
returns-in_err-last c =
    let p = err_from_is_err_and c.from_residual.result c.from_residual.ensures.1 in
    rw (p.1, p.2) (restore_refused c.args.state c.args.store.now c.args.number (sym c.in_err-last.ensures))

pub returns-then-not-is_restorable : goal.returns-then-not-is_restorable
returns-then-not-is_restorable c =
    let l = last_ok c.args.state c.args.store.now (sym c.in_ok-last.ensures) in
    restore_none _ _ _ l.0 l.1.0
    (sym (c.is_restorable.ensures ∙ ap (λ (k : ℕ). restorable k c.args.number) l.1.1) ∙ c.if-not-is_restorable.true)

pub returns : goal.returns
returns c =
    let l = last_ok c.args.state c.args.store.now (sym c.in_ok-last.ensures) in
    restore_some _ _ _ l.0 l.1.0
    (sym (c.is_restorable.ensures ∙ ap (λ (k : ℕ). restorable k c.args.number) l.1.1) ∙ c.if-not-is_restorable.false)
    c.restore_from.ensures
