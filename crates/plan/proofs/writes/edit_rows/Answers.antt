-- `plan::writes::edit_rows` meets its contract.
use mathlib.Core.Path.{◌∙◌}
use Rattle.rules.specs.Plan.{row_edit_plan}
use Rattle.plan.proofs.writes.edit_rows.Goals as goal

pub returns-then-core : goal.returns-then-core
unfolding row_edit_plan
returns-then-core c = c.refusing.ensures ∙ rw c.if-core.true

pub returns : goal.returns
unfolding row_edit_plan
returns c = c.writing.ensures ∙ rw (c.cursor_row.ensures, c.row_start.ensures, c.segment_bottom.ensures, c.if-core.false)
