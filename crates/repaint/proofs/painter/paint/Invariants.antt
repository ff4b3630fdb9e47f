-- `repaint::painter::paint` meets its contract.
use Rattle.std.specs.Prelude.{◌-◌}
use Rattle.repaint.proofs.Forwards.{Going}
use Rattle.repaint.proofs.painter.paint.Given as goal

abbrev pub invariant-loop-at : goal.invariant-loop-at
invariant-loop-at l =
    Going l.before l.after l.initial.rows l.initial.columns l.initial.lengths l.initial.out l.at l.n l.k l.a l.rows l.columns l.lengths l.out

abbrev pub decreases-loop-at : goal.decreases-loop-at
decreases-loop-at l =
    1920 - l.at
