-- `terminal::inner::quiet` meets its contract.
use Rattle.terminal.proofs.Carrying.{quiet_carried}
use Rattle.terminal.proofs.inner.quiet.Goals as goal

pub returns : goal.returns
returns c p w = quiet_carried _ _ _ p w
