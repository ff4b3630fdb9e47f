-- `repaint::painter::put_cells` meets its contract.
use Rattle.repaint.proofs.Forwards.{Cells}
use Rattle.repaint.proofs.painter.put_cells.Given as goal

abbrev pub invariant-loop-v : goal.invariant-loop-v
invariant-loop-v l =
    Cells l.part l.initial.out l.start l.remembered-2 l.v-index l.place l.remembered l.out
