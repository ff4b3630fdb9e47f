-- `plan::moves::back_cell` meets its contract.
use mathlib.Core.Path.{◌∙◌}
use native.Mathlib.Omega.{arith}
use Rattle.plan.proofs.Ranges.{open_range}
use Rattle.plan.proofs.moves.back_cell.Goals as goal

pub overflow_cast-result : goal.overflow_cast-result
overflow_cast-result c =
    let x = c.args in
    omega (
      arith,
      open_range x.x c.requires.1 x.on x.page.now c.requires.0
          c.segment_start-start.ensures c.cursor_of-at.ensures c.previous_open.ensures,
    )

pub returns : goal.returns
returns c = c.previous_open.ensures ∙ rw (c.segment_start-start.ensures, c.cursor_of-at.ensures)
