-- `alert::stream::finish` meets its contract. The loop: the times that are left come to what all of them do; what is lent keeps its length.
use Rattle.std.proofs.Common.{◌≡◌, ◌-◌, length}
use Rattle.alert.specs.Watch.{most_times}
use Rattle.alert.proofs.Watching.{Finishing}
use Rattle.alert.proofs.stream.finish.Given as goal

abbrev pub invariant-loop-i : goal.invariant-loop-i
invariant-loop-i l =
    Finishing (length l.initial.room) (most_times - l.i) l.initial.page l.initial.t.state l.page l.t.state
    × ((length l.page ≡ length l.initial.page) × ((length l.room ≡ length l.initial.room) × (length l.log ≡ length l.initial.log)))
