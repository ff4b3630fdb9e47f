-- `fields::put` meets its contract. The loop: the cells up to the next one are in the room.
use mathlib.Core.Path.{◌≡◌}
use mathlib.Core.List.{map}
use Prim.Native.Nat.{◌-◌, ◌≤◌}
use lib.Seq.{slice}
use Rattle.rules.specs.Cell.{sent}
use Rattle.rules.specs.Room.{over}
use Rattle.fields.proofs.put.Given as goal

abbrev pub invariant-loop-i : goal.invariant-loop-i
invariant-loop-i l =
    (l.from ≤ l.i) × ((l.i ≤ l.to) × (l.room ≡ over (map sent (slice l.from l.i l.page)) l.initial.room))
