-- `terminal::fast::edits::line_end` meets its contract.
use Rattle.std.specs.Prelude.{ℕ, ◌+◌}
use mathlib.Core.Path.{ap₂, ◌∙◌}
use native.Mathlib.Omega.{arith}
use Rattle.rules.proofs.Rows.{columns_width, width_range}
use Rattle.terminal.proofs.FastPaths.{line_end}
use Rattle.terminal.proofs.fast.edits.line_end.Goals as goal

pub overflow_add-result : goal.overflow_add-result
overflow_add-result c =
    omega (
      arith,
      c.columns.ensures,
      width_range (columns_width c.args.wide),
      c.line_start.ensures,
      c.requires,
    )

pub returns : goal.returns
returns c =
    ap₂ (λ (m n : ℕ). m + n) c.line_start.ensures c.columns.ensures
    ∙ line_end c.args.wide c.args.at
