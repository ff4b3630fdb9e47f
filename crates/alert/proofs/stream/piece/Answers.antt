-- `alert::stream::piece` meets its contract.
use Rattle.std.proofs.Common.{refl}
use Rattle.alert.proofs.Watching.{fed_none}
use Rattle.alert.proofs.stream.piece.Goals as goal

pub returns-then-n-eq0-clause-fed : goal.returns-then-n-eq0-clause-fed
returns-then-n-eq0-clause-fed g c = fed_none refl
