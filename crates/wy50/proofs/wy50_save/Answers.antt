-- `wy50::wy50_save` meets its contract.
use Rattle.wy50.proofs.Options.{none_is, some_is}
use Rattle.wy50.proofs.SavedCalls.{save_named, save_unnamed}
use Rattle.wy50.proofs.wy50_save.Goals as goal

pub returns-in_default : goal.returns-in_default
returns-in_default c = save_unnamed _ _ (none_is _ _ c.in_default.ensures)

pub returns : goal.returns
returns c = let s = some_is _ c.in-Some.ensures in save_named _ _ s.0 s.1 c.save.ensures c.save_numbers.ensures
