-- `wy50::wy50_power_on` meets its contract.
use Rattle.wy50.proofs.Options.{none_is, some_is}
use Rattle.wy50.proofs.Calls.{powered_on, power_on_refused}
use Rattle.wy50.proofs.wy50_power_on.Goals as goal

pub returns-in_default : goal.returns-in_default
returns-in_default c =
    power_on_refused _ _ (none_is _ _ c.in_default.ensures) c.power_on_state.ensures c.fresh.ensures

pub returns : goal.returns
returns c =
    let s = some_is _ c.in-Some.ensures in
    powered_on _ _ s.0 s.1 c.power_on-t.ensures c.answer_number.ensures c.fresh-2.ensures
