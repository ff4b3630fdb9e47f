-- `wy50::wy50_press` meets its contract.
use Rattle.wy50.proofs.Options.{none_is, some_is}
use Rattle.wy50.proofs.Calls.{sent, unsent, press_refused}
use Rattle.wy50.proofs.wy50_press.Goals as goal

pub returns-in_default : goal.returns-in_default
returns-in_default c = press_refused _ _ (none_is _ _ c.in_default.ensures) _ _

pub returns-in-Ok : goal.returns-in-Ok
returns-in-Ok c = let s = some_is _ c.in-Some.ensures in sent _ _ _ _ s.0 s.1 c.in-Ok.ensures

pub returns-in-Err : goal.returns-in-Err
returns-in-Err c = let s = some_is _ c.in-Some.ensures in unsent _ _ _ _ s.0 s.1 c.in-Err.ensures c.answer_number.ensures
