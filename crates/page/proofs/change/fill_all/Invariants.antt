-- `page::change::fill_all` meets its contract. The loop: below i the cells are filled, from i on they are as they were.
use mathlib.Core.Path.{◌≡◌}
use mathlib.Core.Bool.{false}
use Prim.Native.Nat.{◌+◌, ◌-◌}
use lib.ListN.{length}
use Rattle.rules.specs.Change.{filled}
use Rattle.page.proofs.Loop.{Joined}
use Rattle.page.proofs.change.fill_all.Given as goal

abbrev pub invariant-loop-i : goal.invariant-loop-i
invariant-loop-i l =
    (l.last + 32 ≡ length l.initial.part) × Joined l.i (filled false l.value l.initial.part) l.initial.part l.part

abbrev pub decreases-loop-i : goal.decreases-loop-i
decreases-loop-i l =
    l.last - l.i
