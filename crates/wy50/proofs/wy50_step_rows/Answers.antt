-- `wy50::wy50_step_rows` meets its contract.
use Rattle.wy50.proofs.Options.{none_is, some_is}
use Rattle.wy50.proofs.RowCalls.{rows_stepped, step_unnamed}
use Rattle.wy50.proofs.wy50_step_rows.Goals as goal

pub returns-in_default : goal.returns-in_default
returns-in_default c = rw c.refused_step.ensures (step_unnamed _ _ _ _ (none_is _ _ c.in_default.ensures) _)

pub returns : goal.returns
returns c = let s = some_is _ c.in-Some.ensures in rows_stepped _ _ _ _ s.0 s.1 _ c.step_rows.ensures.0 c.step_rows.ensures.1 c.stepped.ensures
