-- `wy50::wy50_restore` meets its contract.
use Rattle.wy50.proofs.Options.{none_is, some_is}
use Rattle.wy50.proofs.SavedCalls.{restore_unnamed, restore_done, restore_refused}
use Rattle.wy50.proofs.wy50_restore.Goals as goal

pub returns-in_default : goal.returns-in_default
returns-in_default c = restore_unnamed _ _ _ (none_is _ _ c.in_default.ensures)

pub returns-in-Ok : goal.returns-in-Ok
returns-in-Ok c = let s = some_is _ c.in-Some.ensures in restore_done _ _ _ s.0 s.1 c.in-Ok.ensures c.pack.ensures

pub returns-in-Err : goal.returns-in-Err
returns-in-Err c = let s = some_is _ c.in-Some.ensures in restore_refused _ _ _ s.0 s.1 c.in-Err.ensures c.refusal_number.ensures
