-- `repaint::painter::put_cells` meets its contract.
use native.Mathlib.Omega.{arith}
use Rattle.repaint.proofs.Forwards.{cells_begin, cells_fit, cells_go, cells_done}
use Rattle.repaint.proofs.painter.put_cells.Goals as goal

pub loop-v-init : goal.loop-v-init
loop-v-init c = let x = c.args in cells_begin x.part.now x.out.now x.start x.remembered

pub put_cell-place-requires : goal.put_cell-place-requires
put_cell-place-requires c =
    cells_fit c.loop-v.invariant c.loop-v-test.true
    c.requires.1

pub loop-v-preserved : goal.loop-v-preserved
loop-v-preserved c =
    cells_go c.loop-v.invariant c.loop-v-test.true
    c.put_cell-place.ensures c.put_cell-place.auto.out

pub shape_of-out : goal.shape_of-out
shape_of-out c = c.loop-v.invariant.long

pub returns : goal.returns
returns c = cells_done c.loop-v.invariant (omega (arith, c.loop-v-test.false))
