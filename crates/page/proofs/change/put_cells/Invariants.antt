-- `page::change::put_cells` meets its contract. The loop: below from + i the cells are as asked, from there on they are as they were.
use Prim.Native.Nat.{◌+◌, ◌≤◌}
use mathlib.Core.Bool.{false}
use Rattle.rules.specs.Change.{within, filled}
use Rattle.page.proofs.Loop.{Joined}
use Rattle.page.proofs.change.put_cells.Given as goal

abbrev pub invariant-loop-i : goal.invariant-loop-i
invariant-loop-i l =
    (l.i ≤ l.count) × Joined (l.from + l.i) (within l.from (l.from + l.count) (filled false l.value) l.initial.part) l.initial.part l.part
