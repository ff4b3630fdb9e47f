-- `wy50::wy50_run_rows` meets its contract.
use Rattle.wy50.proofs.Options.{none_is, some_is}
use Rattle.wy50.proofs.RowCalls.{rows_completed, run_unnamed}
use Rattle.wy50.proofs.wy50_run_rows.Goals as goal

pub returns-in_default : goal.returns-in_default
returns-in_default c = rw c.refused_run.ensures (run_unnamed _ _ _ _ (none_is _ _ c.in_default.ensures) _)

pub returns : goal.returns
returns c = let s = some_is _ c.in-Some.ensures in rows_completed _ _ _ _ s.0 s.1 _ c.run_rows.ensures.0 c.run_rows.ensures.1 c.ran.ensures
