-- `wy50::wy50_convert` meets its contract.
use Rattle.wy50.proofs.Options.{none_is, some_is}
use Rattle.wy50.proofs.ConvertCalls.{turns_unnamed, turns_done, turns_refused}
use Rattle.wy50.proofs.wy50_convert.Goals as goal

pub returns-in_default : goal.returns-in_default
returns-in_default c = turns_unnamed _ _ _ (none_is _ _ c.in_default.ensures)

pub returns-in-Ok : goal.returns-in-Ok
returns-in-Ok c = let s = some_is _ c.in-Some.ensures in turns_done _ _ _ s.0 s.1 c.in-Ok.ensures c.pack.ensures

pub returns-in-Err : goal.returns-in-Err
returns-in-Err c = let s = some_is _ c.in-Some.ensures in turns_refused _ _ _ s.0 s.1 c.in-Err.ensures c.answer_number.ensures
