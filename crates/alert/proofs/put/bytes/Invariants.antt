-- `alert::put::bytes` meets its contract. The loop: to put the bytes to come makes of the room what all of them make of the first.
use Rattle.std.proofs.Common.{◌≡◌, length, drop}
use Rattle.alert.proofs.Puts.{Left}
use Rattle.alert.proofs.put.bytes.Given as goal

abbrev pub invariant-loop-b : goal.invariant-loop-b
invariant-loop-b l = (length l.room ≡ length l.initial.room) × Left (drop l.b-index l.text) l.n l.room l.text l.start l.initial.room
