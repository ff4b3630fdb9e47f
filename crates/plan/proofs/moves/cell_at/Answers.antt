-- `plan::moves::cell_at` meets its contract.
use Rattle.std.specs.Prelude.{◌+◌, ◌-◌}
use native.Mathlib.Omega.{arith}
use Rattle.rules.proofs.Rows.{columns_width, width_range, rows_small}
use Rattle.plan.proofs.moves.cell_at.Goals as goal

pub overflow_add-result : goal.overflow_add-result
overflow_add-result c = omega (arith, c.requires, c.cells.ensures, width_range (columns_width c.args.wide), rows_small (columns_width c.args.wide) {a = c.args.top + (c.args.row - c.args.base)} (omega (arith, c.requires)))

pub returns : goal.returns
returns c = rw c.cells.ensures
