-- `alert::options::number` is safe and ends.
use Rattle.std.proofs.Common.{◌<◌}
use Rattle.alert.proofs.options.number.Given as goal

abbrev pub invariant-loop-b : goal.invariant-loop-b
invariant-loop-b l = l.n < 1152921504606846976
