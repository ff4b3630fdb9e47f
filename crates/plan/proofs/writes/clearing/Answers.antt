-- `plan::writes::clearing` meets its contract.
use mathlib.Core.Path.{◌∙◌}
use Rattle.plan.proofs.writes.clearing.Goals as goal

pub returns : goal.returns
returns c = c.writing.ensures ∙ rw c.written_cell.ensures
