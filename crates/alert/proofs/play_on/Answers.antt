-- `alert::play_on` is safe and ends.
use Rattle.std.proofs.Common.{arith}
use Rattle.alert.proofs.Taken.{came_length}
use Rattle.alert.proofs.play_on.Goals as goal

pub play-played-requires : goal.play-played-requires
play-played-requires g c = c.requires

pub show-requires : goal.show-requires
show-requires g c = (
  came_length c.in-Ok.ensures.came,
  (
    omega (arith, c.play-played.auto, c.requires.1),
    c.in-Ok.ensures.came,
  ),
)
