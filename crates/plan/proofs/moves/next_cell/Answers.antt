-- `plan::moves::next_cell` meets its contract.
use borrow.Author.Tests.{lt-ltb, le-ltb}
use Rattle.rules.specs.Plan.{next_cell}
use Rattle.plan.proofs.moves.next_cell.Goals as goal

pub returns-then-at-segment_end : goal.returns-then-at-segment_end
unfolding next_cell
returns-then-at-segment_end c = rw (← c.cursor_of-at.ensures, ← c.segment_end.ensures, lt-ltb _ _ c.if-at-segment_end.true)

pub returns-else-at-segment_end : goal.returns-else-at-segment_end
unfolding next_cell
returns-else-at-segment_end c =
    rw (
      ← c.cursor_of-at.ensures,
      ← c.segment_end.ensures,
      le-ltb _ _ c.if-at-segment_end.false,
    ) c.segment_start.ensures
