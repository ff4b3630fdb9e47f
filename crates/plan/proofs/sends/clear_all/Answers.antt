-- `plan::sends::clear_all` meets its contract.
use mathlib.Core.Path.{◌∙◌}
use Rattle.plan.proofs.sends.clear_all.Goals as goal

pub returns : goal.returns
returns c = c.writing.ensures ∙ rw (c.segment_start-start.ensures, c.segment_end.ensures)
