-- `plan::writes::plan_clear` meets its contract.
use mathlib.Core.Path.{◌∙◌}
use native.Mathlib.Omega.{arith}
use Rattle.rules.specs.Plan.{clear_plan}
use Rattle.plan.proofs.writes.plan_clear.Goals as goal

pub overflow_add-row : goal.overflow_add-row
unfolding clear_plan
overflow_add-row c = omega (arith, c.row_start-first.ensures, c.width_of.ensures, c.requires)

pub returns-in-Row : goal.returns-in-Row
unfolding clear_plan
returns-in-Row c = c.clearing.ensures ∙ rw (c.in-Row.is, c.row_start-first.ensures, c.width_of.ensures, c.cursor_of-at.ensures, c.requires.placed.last)

pub returns-in-Rest : goal.returns-in-Rest
unfolding clear_plan
returns-in-Rest c = c.clearing-in-Rest.ensures ∙ rw (c.cursor_of-at.ensures, c.segment_end-end.ensures, c.in-Rest.is)

pub returns-in-Segment : goal.returns-in-Segment
unfolding clear_plan
returns-in-Segment c = c.clearing-in-Segment.ensures ∙ rw (c.segment_start-start.ensures, c.segment_end-end.ensures, c.in-Segment.is)

pub returns-in-Column : goal.returns-in-Column
unfolding clear_plan
returns-in-Column c = c.writing.ensures ∙ rw (c.segment_top.ensures, c.segment_bottom.ensures, c.cursor_column.ensures, c.cursor_of-at.ensures, c.in-Column.is)
