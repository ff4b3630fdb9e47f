-- `alert::stream::pieces` meets its contract. The loop: some bytes have brought about what is there; what is lent keeps its length.
use Rattle.std.proofs.Common.{◌≡◌, length}
use Rattle.alert.specs.Watch.{watch, Fed}
use Rattle.alert.proofs.stream.pieces.Given as goal

abbrev pub invariant-loop-i : goal.invariant-loop-i
invariant-loop-i g l =
    Fed (length l.initial.room) (watch l.initial.page l.initial.drawn l.initial.p.state) (watch l.page l.drawn l.p.state)
    × ((length l.page ≡ length l.initial.page) × ((length l.before ≡ length l.initial.before) × ((length l.drawn ≡ length l.initial.drawn)
    × ((length l.room ≡ length l.initial.room) × (length l.log ≡ length l.initial.log)))))
