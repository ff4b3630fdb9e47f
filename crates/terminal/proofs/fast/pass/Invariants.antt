-- `terminal::fast::pass` meets its contract. The loop: acts lead from the cursor `first` and the byte `from` to the cursor and the byte where it
-- stands.
use Rattle.std.specs.Prelude.{◌≡◌, ◌-◌, true, length}
use Rattle.terminal.specs.FastPath.{Passes}
use Rattle.terminal.proofs.fast.pass.Given as goal

abbrev pub invariant-loop-i : goal.invariant-loop-i
invariant-loop-i l =
    Passes l.ground l.input l.first l.from l.initial.page l.at l.i l.page l.refused
    × (l.stop ≡ true → l.refused ≡ 0)

abbrev pub decreases-loop-i : goal.decreases-loop-i
decreases-loop-i l =
    length l.input - l.i
