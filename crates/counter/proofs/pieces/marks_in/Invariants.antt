-- `counter::pieces::marks_in` meets its contract. The loop: the marks passed, and those from here on.
use Rattle.std.proofs.Common.{◌≡◌, ◌+◌, ◌≤◌, drop}
use Rattle.counter.specs.Walk.{marks_in}
use Rattle.counter.proofs.pieces.marks_in.Given as goal

abbrev pub invariant-loop-b : goal.invariant-loop-b
invariant-loop-b l = (l.n ≤ l.b-index) × (l.n + marks_in (drop l.b-index l.text) ≡ marks_in l.text)
