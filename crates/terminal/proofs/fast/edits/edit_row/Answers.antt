-- `terminal::fast::edits::edit_row` meets its contract.
use native.Mathlib.Omega.{arith}
use Rattle.terminal.specs.FastPath.{edits_row}
use Rattle.terminal.proofs.fast.edits.edit_row.Goals as goal

pub returns : goal.returns
returns c p b e =
    rw (c.line_start.ensures, c.row_of.ensures)
    (omega (arith, c.requires), edits_row c.args.down e c.if-ground.false)
