-- `carry::replies::send_identity` meets its contract. In each arm the personality is the one that the match told.
use mathlib.Core.Path.{◌∙◌}
use Rattle.rules.specs.Send.{model}
use Rattle.carry.proofs.replies.send_identity.Goals as goal

pub returns-in-Wy50 : goal.returns-in-Wy50
unfolding model
returns-in-Wy50 c = c.send_bytes.ensures ∙ rw c.in-Wy50.is

pub returns-in-Wy60 : goal.returns-in-Wy60
unfolding model
returns-in-Wy60 c = c.send_bytes-in-Wy60.ensures ∙ rw c.in-Wy60.is
