-- `repaint::painter::put_cell` meets its contract.
use mathlib.Core.Path.{ap}
use native.Mathlib.Omega.{arith}
use Rattle.std.specs.Prelude.{length}
use Rattle.repaint.proofs.Forwards.{cell_same, cell_other, put_same, put_other}
use Rattle.repaint.proofs.painter.put_cell.Goals as goal

pub put-requires : goal.put-requires
put-requires c =
    let x = c.args in
    omega (arith, c.requires, ap length (cell_same x.remembered x.v c.if-attribute-remembered.true))

pub returns-then-attribute-remembered : goal.returns-then-attribute-remembered
returns-then-attribute-remembered c =
    let x = c.args in
    put_same x.remembered x.v c.if-attribute-remembered.true c.put.ensures

pub put-requires-2 : goal.put-requires-2
put-requires-2 c =
    let x = c.args in
    omega (
      arith,
      c.requires,
      ap length
          (cell_other x.remembered x.v c.if-attribute-remembered.false),
    )

pub returns : goal.returns
returns c =
    let x = c.args in
    put_other x.remembered x.v c.if-attribute-remembered.false
    c.attribute_code.ensures c.put-2.ensures
