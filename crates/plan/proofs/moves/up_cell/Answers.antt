-- `plan::moves::up_cell` meets its contract.
use native.Mathlib.Omega.{arith}
use Rattle.rules.specs.Plan.{up_cell}
use Rattle.plan.proofs.Ranges.{below_top}
use Rattle.plan.proofs.moves.up_cell.Goals as goal

pub overflow_sub-result-else-at_top : goal.overflow_sub-result-else-at_top
unfolding up_cell
overflow_sub-result-else-at_top c = omega (arith, below_top c.args.x c.at_top.ensures c.if-at_top.false)

pub returns-then-at_top : goal.returns-then-at_top
unfolding up_cell
returns-then-at_top c = rw (← c.at_top.ensures, c.if-at_top.true, c.segment_end.ensures, c.width_of.ensures, c.cursor_column.ensures)

pub returns-else-at_top : goal.returns-else-at_top
unfolding up_cell
returns-else-at_top c = rw (← c.at_top.ensures, c.if-at_top.false, c.cursor_of.ensures, c.width_of-else-at_top.ensures)
