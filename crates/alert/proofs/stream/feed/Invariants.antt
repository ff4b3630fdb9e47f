-- `alert::stream::feed` meets its contract. The loop: the bytes to come bring about what all of them do; what is lent keeps its length.
use Rattle.std.proofs.Common.{◌≡◌, length, drop}
use Rattle.alert.specs.Watch.{watch, watched_all}
use Rattle.alert.proofs.Watching.{Watching}
use Rattle.alert.proofs.stream.feed.Given as goal

abbrev pub invariant-loop-b : goal.invariant-loop-b
invariant-loop-b l =
    Watching (length l.initial.room) (watch l.page l.drawn l.t.state) (drop l.b-index l.input) (watched_all (length l.initial.room) (watch l.initial.page l.initial.drawn l.initial.t.state) l.input)
    × ((length l.page ≡ length l.initial.page) × ((length l.before ≡ length l.initial.before) × ((length l.drawn ≡ length l.initial.drawn)
    × ((length l.room ≡ length l.initial.room) × (length l.log ≡ length l.initial.log)))))
