-- `wy50::wy50_step` meets its contract.
use Rattle.wy50.proofs.Options.{none_is, some_is}
use Rattle.wy50.proofs.Calls.{stepped, step_refused, unnamed_bad}
use Rattle.wy50.proofs.wy50_step.Goals as goal

pub returns-in_default : goal.returns-in_default
returns-in_default c = rw c.refused_step.ensures (step_refused _ _ (unnamed_bad _ _ (none_is _ _ c.in_default.ensures)) _ _)

pub returns : goal.returns
returns c = let s = some_is _ c.in-Some.ensures in stepped _ _ _ s.0 s.1 _ c.step.ensures c.stepped.ensures
