-- `plan::writes::plan_edit` meets its contract.
use mathlib.Core.Path.{◌∙◌}
use Rattle.rules.specs.Plan.{edit_plan}
use Rattle.plan.proofs.writes.plan_edit.Goals as goal

pub returns-in-InsertCell : goal.returns-in-InsertCell
unfolding edit_plan
returns-in-InsertCell c = c.edit_cells.ensures ∙ rw c.in-InsertCell.is

pub returns-in-DeleteCell : goal.returns-in-DeleteCell
unfolding edit_plan
returns-in-DeleteCell c = c.edit_cells-in-DeleteCell.ensures ∙ rw c.in-DeleteCell.is

pub returns-in-InsertRow : goal.returns-in-InsertRow
unfolding edit_plan
returns-in-InsertRow c = c.edit_rows.ensures ∙ rw c.in-InsertRow.is

pub returns-in-DeleteRow : goal.returns-in-DeleteRow
unfolding edit_plan
returns-in-DeleteRow c = c.edit_rows-in-DeleteRow.ensures ∙ rw c.in-DeleteRow.is
