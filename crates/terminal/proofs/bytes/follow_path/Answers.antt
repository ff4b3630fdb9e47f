-- `terminal::bytes::follow_path` meets its contract.
use mathlib.Core.Logic.{inl, inr}
use mathlib.Core.Path.{sym, ◌∙◌}
use borrow.Author.Tests.{eqb-true, eqb-false}
use Rattle.terminal.proofs.FastRows.{followed, behind_length}
use Rattle.terminal.proofs.bytes.follow_path.Goals as goal

pub returns-then-is_empty : goal.returns-then-is_empty
returns-then-is_empty c = inl (eqb-true _ _ (sym c.is_empty.ensures ∙ c.if-is_empty.true))

pub returns-then-same : goal.returns-then-same
returns-then-same c =
    followed _ _ c.requires.1
    (elim c.then-same.either [
      | inl e ↦ rw e
      | inr (inl e) ↦ rw (e.0, e.1)
      | inr (inr e) ↦ rw (e.0, e.1, e.2)
    ])

pub rebuild-requires : goal.rebuild-requires
rebuild-requires c = (c.requires.0, behind_length _ _ c.requires.1 (eqb-false _ _ (sym c.is_empty.ensures ∙ c.if-is_empty.false)))

pub returns : goal.returns
returns c = inr c.rebuild.ensures
