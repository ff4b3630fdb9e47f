-- `page::change::fill_open` meets its contract. The loop: below i the open cells are filled, from i on they are as they were.
use mathlib.Core.Bool.{true}
use Prim.Native.Nat.{◌≤◌}
use lib.ListN.{length}
use Rattle.rules.specs.Change.{filled}
use Rattle.page.proofs.Loop.{Joined}
use Rattle.page.proofs.change.fill_open.Given as goal

abbrev pub invariant-loop-i : goal.invariant-loop-i
invariant-loop-i l =
    (l.i ≤ length l.initial.part) × Joined l.i (filled true l.value l.initial.part) l.initial.part l.part
