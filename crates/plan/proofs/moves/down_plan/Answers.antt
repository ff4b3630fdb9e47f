-- `plan::moves::down_plan` meets its contract.
use mathlib.Core.Path.{◌∙◌}
use native.Mathlib.Omega.{arith}
use borrow.Author.Tests.{lt-ltb, le-ltb}
use Rattle.rules.specs.Plan.{down_plan}
use Rattle.rules.proofs.Rows.{columns_width, column_below}
use Rattle.plan.proofs.moves.down_plan.Goals as goal

pub returns-then-below-segment_end : goal.returns-then-below-segment_end
unfolding down_plan
returns-then-below-segment_end c = c.settling.ensures ∙ rw (← c.segment_end.ensures, ← c.width_of.ensures, lt-ltb _ _ c.if-below-segment_end.true)

pub returns-then-scrolls : goal.returns-then-scrolls
unfolding down_plan
returns-then-scrolls c = c.writing.ensures ∙ rw (c.scroll.ensures, ← c.segment_end.ensures, ← c.width_of.ensures, le-ltb _ _ c.if-below-segment_end.false, ← c.scrolls.ensures, c.if-scrolls.true)

pub overflow_add-segment_start : goal.overflow_add-segment_start
unfolding down_plan
overflow_add-segment_start c = omega (arith, c.requires.0, c.segment_start.ensures, c.column_of.ensures, column_below (columns_width c.args.core.screen.wide) c.args.from)

pub returns : goal.returns
unfolding down_plan
returns c = c.settling-2.ensures ∙ rw (c.segment_start.ensures, c.column_of.ensures, ← c.segment_end.ensures, le-ltb _ _ (rw c.width_of.ensures at c.if-below-segment_end.false), ← c.scrolls.ensures, c.if-scrolls.false)
