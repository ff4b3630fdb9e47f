-- `page::change::shift_left` meets its contract. The loop: below i the cells are shifted, from i on they are as they were.
use mathlib.Core.Path.{◌≡◌}
use Prim.Native.Nat.{◌-◌, ◌≤◌}
use lib.ListN.{length}
use Rattle.rules.specs.Change.{shift_left}
use Rattle.page.proofs.Loop.{Joined}
use Rattle.page.proofs.change.shift_left.Given as goal

abbrev pub invariant-loop-i : goal.invariant-loop-i
invariant-loop-i l =
    (l.end ≡ length l.initial.part - l.count) × ((l.i ≤ l.end) × Joined l.i (shift_left l.count l.value l.initial.part) l.initial.part l.part)

abbrev pub decreases-loop-i : goal.decreases-loop-i
decreases-loop-i l =
    l.end - l.i
