-- `terminal::sequence::awaited` meets its contract. The loop: the bytes up to i are awaited, and leave q under way.
use Rattle.std.specs.Prelude.{◌-◌, ◌≤◌, length}
use Rattle.terminal.specs.Sequence.{Waits}
use Rattle.terminal.proofs.sequence.awaited.Given as goal

abbrev pub invariant-loop-i : goal.invariant-loop-i
invariant-loop-i l =
    Waits l.input l.initial.q l.from l.q l.i × (l.i ≤ length l.input)

abbrev pub decreases-loop-i : goal.decreases-loop-i
decreases-loop-i l =
    length l.input - l.i
