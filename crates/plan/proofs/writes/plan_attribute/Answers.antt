-- `plan::writes::plan_attribute` meets its contract.
use mathlib.Core.Path.{◌∙◌}
use Rattle.rules.specs.Plan.{attribute_plan}
use Rattle.plan.proofs.writes.plan_attribute.Goals as goal

pub returns-then-takes_cell : goal.returns-then-takes_cell
unfolding attribute_plan
returns-then-takes_cell c =
    c.plan_store.ensures
    ∙ rw (
      c.attribute_contents.ensures,
      ← c.takes_cell.ensures,
      c.if-takes_cell.true,
    )

pub returns : goal.returns
unfolding attribute_plan
returns c =
    c.plain.ensures
    ∙ rw (
      c.with_attribute.ensures,
      c.attribute_of.ensures,
      ← c.takes_cell.ensures,
      c.if-takes_cell.false,
    )
