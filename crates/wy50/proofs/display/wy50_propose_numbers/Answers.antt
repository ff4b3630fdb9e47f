-- `wy50::display::wy50_propose_numbers` meets its contract.
use Rattle.wy50.proofs.Options.{none_is, some_is}
use Rattle.wy50.proofs.RepaintCalls.{propose_unnamed, propose_named}
use Rattle.wy50.proofs.display.wy50_propose_numbers.Goals as goal

pub returns-in_default : goal.returns-in_default
returns-in_default c =
    let x = c.args in
    propose_unnamed x.personality x.before.now x.after.now x.numbers.now x.bytes.now (none_is _ _ c.in_default.ensures)

pub returns : goal.returns
returns c =
    let x = c.args in
    let s = some_is _ c.in-Some.ensures in
    propose_named x.personality x.before.now x.after.now x.numbers.now x.bytes.now s.0 s.1 c.propose_beside.ensures
