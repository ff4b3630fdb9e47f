-- `plan::sends::text` meets its contract.
use mathlib.Core.Path.{◌∙◌}
use Rattle.plan.proofs.sends.text.Goals as goal

pub returns : goal.returns
returns c = c.replying.ensures ∙ rw c.text_start.ensures
