-- `page::change::shift_right` meets its contract. The loop: from i + count on the cells are shifted, below they are as they were.
use Prim.Native.Nat.{◌+◌, ◌-◌, ◌≤◌}
use lib.ListN.{length}
use Rattle.rules.specs.Change.{shift_right}
use Rattle.page.proofs.Loop.{Joined}
use Rattle.page.proofs.change.shift_right.Given as goal

abbrev pub invariant-loop-i : goal.invariant-loop-i
invariant-loop-i l =
    (l.i ≤ length l.initial.part - l.count) × Joined (l.i + l.count) l.initial.part (shift_right l.count l.value l.initial.part) l.part

abbrev pub decreases-loop-i : goal.decreases-loop-i
decreases-loop-i l =
    l.i
