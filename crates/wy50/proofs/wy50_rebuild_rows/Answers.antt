-- `wy50::wy50_rebuild_rows` meets its contract.
use mathlib.Core.Path.{refl}
use Rattle.wy50.proofs.Options.{none_is, some_is}
use Rattle.wy50.proofs.RowCalls.{rebuilt_named, rebuilt_unnamed}
use Rattle.wy50.proofs.wy50_rebuild_rows.Goals as goal

pub returns-in_default : goal.returns-in_default
returns-in_default c = rebuilt_unnamed _ _ _ (none_is _ _ c.in_default.ensures)

pub returns-in-Ok : goal.returns-in-Ok
returns-in-Ok c =
    let s = some_is _ c.in-Some.ensures in rebuilt_named _ _ _ s.0 s.1 refl c.in-Ok.ensures.0.answer c.in-Ok.ensures.1

pub returns-in-Err : goal.returns-in-Err
returns-in-Err c =
    let s = some_is _ c.in-Some.ensures in
    rebuilt_named _ _ _ s.0 s.1 c.answer_number.ensures c.in-Err.ensures.0.answer c.in-Err.ensures.1
