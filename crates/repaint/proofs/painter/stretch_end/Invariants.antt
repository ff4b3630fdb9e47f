-- `repaint::painter::stretch_end` meets its contract: what is left of the stretch ends where all of it does.
use Rattle.std.specs.Prelude.{◌≡◌, ◌+◌, ◌-◌, ◌≤◌, drop}
use Rattle.repaint.specs.Forward.{reach}
use Rattle.repaint.proofs.painter.stretch_end.Given as goal

abbrev pub invariant-loop-i : goal.invariant-loop-i
invariant-loop-i l =
    (l.at ≤ l.i) × ((l.i ≤ 1920) × (l.i + reach l.i (drop l.i l.before) (drop l.i l.after) ≡ l.at + reach l.at (drop l.at l.before) (drop l.at l.after)))

abbrev pub decreases-loop-i : goal.decreases-loop-i
decreases-loop-i l =
    1920 - l.i
