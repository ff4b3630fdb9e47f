-- `terminal::key::press_key` meets its contract.
use Rattle.terminal.proofs.Calls.{unprogrammed, programmed}
use Rattle.terminal.proofs.key.press_key.Goals as goal

pub returns-then-key-eq0 : goal.returns-then-key-eq0
returns-then-key-eq0 c = unprogrammed _ _ c.if-key-eq0.true c.send.ensures

pub returns-else-key-eq0 : goal.returns-else-key-eq0
returns-else-key-eq0 c = programmed _ _ c.if-key-eq0.false c.send-else-key-eq0.ensures
