-- `alert::guarded::first_change` meets its contract. The loop: the first change from here on is the first of all.
use Rattle.std.proofs.Common.{◌≡◌, drop}
use Rattle.alert.specs.Guarded.{first_change}
use Rattle.alert.proofs.guarded.first_change.Given as goal

abbrev pub invariant-loop-i : goal.invariant-loop-i
invariant-loop-i l = first_change l.protect l.i (drop l.i l.drawn) (drop l.i l.page) ≡ first_change l.protect 0 l.drawn l.page
