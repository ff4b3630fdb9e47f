-- `plan::writes::plan_store` meets its contract.
use mathlib.Core.Path.{◌∙◌}
use Rattle.rules.specs.Plan.{unless_guarded, store_plan}
use Rattle.plan.proofs.writes.plan_store.Goals as goal

pub returns-then-guarded_at : goal.returns-then-guarded_at
unfolding store_plan unless_guarded
returns-then-guarded_at c =
    c.refusing.ensures
    ∙ rw (
      ← c.cursor_of-at.ensures,
      ← c.guarded_at.ensures,
      c.if-guarded_at.true,
    )

pub returns : goal.returns
unfolding store_plan unless_guarded
returns c =
    c.advancing.ensures
    ∙ rw (
      c.storing.ensures,
      c.written_cell-v.ensures,
      ← c.cursor_of-at.ensures,
      ← c.guarded_at.ensures,
      c.if-guarded_at.false,
    )
