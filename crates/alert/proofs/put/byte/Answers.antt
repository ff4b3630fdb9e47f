-- `alert::put::byte` meets its contract.
use Rattle.alert.proofs.Puts.{one, full}
use Rattle.alert.proofs.put.byte.Goals as goal

pub returns-then-n-room : goal.returns-then-n-room
returns-then-n-room c = one _ c.if-n-room.true

pub returns : goal.returns
returns c = full _ c.if-n-room.false
