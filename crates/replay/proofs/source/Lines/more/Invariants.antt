-- `replay::source::Lines::more` is safe and ends: each turn reads a byte or more.
use Rattle.std.proofs.Common.{◌-◌}
use Rattle.replay.proofs.source.Lines.more.Given as goal

abbrev pub decreases-loop-self : goal.decreases-loop-self
decreases-loop-self g l =
    65536 - l.self.held
