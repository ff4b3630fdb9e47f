-- `alert::print::attributes::row` is safe and ends.
use Rattle.std.proofs.Common.{◌-◌, ◌≤◌, length}
use Rattle.alert.proofs.print.attributes.row.Given as goal

abbrev pub invariant-loop-i : goal.invariant-loop-i
invariant-loop-i g l = l.i ≤ length l.cells

abbrev pub decreases-loop-i : goal.decreases-loop-i
decreases-loop-i g l = length l.cells - l.i
