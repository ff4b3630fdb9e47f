-- `plan::writes::edit_cells` meets its contract.
use mathlib.Core.Path.{◌∙◌}
use Rattle.rules.specs.Plan.{unless_guarded}
use Rattle.plan.proofs.writes.edit_cells.Goals as goal

pub returns-then-guarded_at : goal.returns-then-guarded_at
unfolding unless_guarded
returns-then-guarded_at c =
    c.refusing.ensures
    ∙ rw (
      ← c.cursor_of-at.ensures,
      ← c.guarded_at.ensures,
      c.if-guarded_at.true,
    )

pub returns : goal.returns
unfolding unless_guarded
returns c =
    c.writing.ensures
    ∙ rw (
      ← c.cursor_of-at.ensures,
      ← c.guarded_at.ensures,
      c.if-guarded_at.false,
    )
