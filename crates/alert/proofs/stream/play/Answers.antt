-- `alert::stream::play` meets its contract.
use Rattle.std.proofs.Common.{arith}
use Rattle.alert.proofs.stream.play.Goals as goal

pub start-state-requires : goal.start-state-requires
start-state-requires g c = c.requires.0

pub pieces-requires : goal.pieces-requires
pieces-requires g c = omega (arith, c.start-state.auto, c.requires.1)
