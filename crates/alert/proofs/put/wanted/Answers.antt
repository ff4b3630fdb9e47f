-- `alert::put::wanted` meets its contract.
use Rattle.alert.proofs.Puts.{none}
use Rattle.alert.proofs.put.wanted.Goals as goal

pub returns-else-is : goal.returns-else-is
returns-else-is c = rw c.if-is.false none
