-- `alert::play_sized` is safe and ends.
use Rattle.std.proofs.Common.{arith}
use Rattle.alert.proofs.Starting.{columns_most}
use Rattle.alert.proofs.play_sized.Goals as goal

pub whole_as_slice-play_on : goal.whole_as_slice-play_on
whole_as_slice-play_on g c = omega (arith, columns_most c.args.o.wide)

pub whole_as_slice-play_on-2 : goal.whole_as_slice-play_on-2
whole_as_slice-play_on-2 g c = omega (arith, columns_most c.args.o.wide)

pub whole_as_slice-play_on-3 : goal.whole_as_slice-play_on-3
whole_as_slice-play_on-3 g c = omega (arith, columns_most c.args.o.wide)
