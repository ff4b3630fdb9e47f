-- `plan::moves::reverse_plan` meets its contract.
use mathlib.Core.Path.{◌∙◌}
use native.Mathlib.Omega.{arith}
use Rattle.rules.specs.Plan.{reverse_plan}
use Rattle.plan.proofs.Ranges.{below_top}
use Rattle.plan.proofs.moves.reverse_plan.Goals as goal

pub overflow_sub-at : goal.overflow_sub-at
unfolding reverse_plan
overflow_sub-at c = omega (arith, below_top c.args.core.screen c.at_top.ensures c.if-not-at_top.true, c.cursor_of-at.ensures, c.width_of.ensures)

pub returns-then-not-at_top : goal.returns-then-not-at_top
unfolding reverse_plan
returns-then-not-at_top c = c.settling.ensures ∙ rw (c.cursor_of-at.ensures, c.width_of.ensures, ← c.at_top.ensures, c.if-not-at_top.true)

pub returns-then-core : goal.returns-then-core
unfolding reverse_plan
returns-then-core c = c.settling-then-core.ensures ∙ rw (c.cursor_of-at.ensures, ← c.at_top.ensures, c.if-not-at_top.false, c.if-core.true)

pub returns : goal.returns
unfolding reverse_plan
returns c = c.writing.ensures ∙ rw (c.scroll.ensures, c.cursor_of-at.ensures, ← c.at_top.ensures, c.if-not-at_top.false, c.if-core.false)
