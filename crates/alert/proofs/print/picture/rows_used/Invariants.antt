-- `alert::print::picture::rows_used` meets its contract.
use Rattle.std.proofs.Common.{◌≤◌}
use Rattle.alert.proofs.print.picture.rows_used.Given as goal

abbrev pub invariant-loop-r : goal.invariant-loop-r
invariant-loop-r l = l.n ≤ l.r
