-- `counter::pieces::past` meets its contract. The loop: the place from here on is the place from the start.
use Rattle.std.proofs.Common.{◌≡◌, ◌+◌, drop}
use Rattle.counter.specs.Walk.{past}
use Rattle.counter.proofs.pieces.past.Given as goal

abbrev pub invariant-loop-i : goal.invariant-loop-i
invariant-loop-i l = l.i + past l.left (drop l.i l.text) ≡ past l.n l.text
