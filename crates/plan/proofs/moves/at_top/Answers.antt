-- `plan::moves::at_top` meets its contract.
use Rattle.rules.specs.Plan.{at_top}
use Rattle.plan.proofs.moves.at_top.Goals as goal

pub returns : goal.returns
unfolding at_top
returns c = rw (c.cursor_of.ensures, c.segment_start.ensures, c.width_of.ensures)
