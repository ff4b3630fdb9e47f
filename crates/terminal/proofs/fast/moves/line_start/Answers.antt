-- `terminal::fast::moves::line_start` meets its contract.
use Rattle.std.specs.Prelude.{ℕ, ◌-◌}
use mathlib.Core.Path.{ap}
use Rattle.rules.proofs.Rows.{columns_width, column_most}
use Rattle.terminal.proofs.fast.moves.line_start.Goals as goal

pub overflow_sub-result : goal.overflow_sub-result
overflow_sub-result c = rw c.column_of.ensures (column_most (columns_width c.args.wide) c.args.at)

pub returns : goal.returns
returns c = ap (λ (n : ℕ). c.args.at - n) c.column_of.ensures
