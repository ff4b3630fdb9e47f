-- `alert::play` is safe and ends.
use Rattle.alert.proofs.Starting.{wide_columns, narrow_columns}
use Rattle.alert.proofs.play.Goals as goal

pub play_sized-requires : goal.play_sized-requires
play_sized-requires g c = rw (c.if-o.true, wide_columns)

pub play_sized-requires-else-o : goal.play_sized-requires-else-o
play_sized-requires-else-o g c = rw (c.if-o.false, narrow_columns)
