-- `carry::replies::cursor_column` meets its contract.
use native.Mathlib.Omega.{arith}
use Rattle.rules.specs.State.{cursor_of}
use Rattle.rules.proofs.Rows.{columns_width, width_range, column_below}
use Rattle.carry.proofs.replies.cursor_column.Goals as goal

pub overflow_cast-result : goal.overflow_cast-result
overflow_cast-result c =
    omega (
      arith,
      c.cursor_column.ensures,
      width_range (columns_width c.args.x.wide),
      column_below
          (columns_width c.args.x.wide) (cursor_of c.args.x),
    )
