-- `fields::cell_at` meets its contract.
use mathlib.Core.Path.{◌∙◌, ap}
use native.Mathlib.Omega.{arith}
use Prim.Native.Nat.{ℕ, ◌+◌}
use Rattle.rules.proofs.Rows.{columns_width, cell_inside, page_small}
use Rattle.fields.specs.Given.{cell_given}
use Rattle.fields.proofs.Reading.{some_columns, page_long, no_page_cell, no_such_row, no_such_column, a_cell}
use Rattle.fields.proofs.cell_at.Goals as goal
use Rattle.fields.proofs.cell_at.Goals.{else-row-lt24-via-then-row-lt24+else-column-columns, else-row-lt24-via-else-row-lt24}

pub returns-in_err-wide-clause-by_rule : goal.returns-in_err-wide-clause-by_rule
unfolding cell_given
returns-in_err-wide-clause-by_rule c = rw c.from_residual.ensures (no_page_cell c.args.cells c.in_err-wide.ensures c.args.row c.args.column)

pub overflow_add-result : goal.overflow_add-result
overflow_add-result c =
    omega (
      arith,
      cell_inside (columns_width c.in_ok-wide.wide) {row = c.args.row} {column = c.args.column} {bottom = 24} (omega arith) (omega (arith, c.columns.ensures)),
      page_small (columns_width c.in_ok-wide.wide),
    )

pub returns-then-column-columns-clause-by_rule : goal.returns-then-column-columns-clause-by_rule
unfolding cell_given
returns-then-column-columns-clause-by_rule c =
    ap (λ (k : ℕ). k + c.args.column) c.first_cell.ensures
    ∙ a_cell c.args.cells c.in_ok-wide.ensures (some_columns c.in_ok-wide.wide) c.args.row c.args.column (omega arith) (omega (arith, c.columns.ensures))

pub returns-then-column-columns-clause-inside : goal.returns-then-column-columns-clause-inside
returns-then-column-columns-clause-inside c =
    omega (
      arith,
      cell_inside (columns_width c.in_ok-wide.wide) {row = c.args.row} {column = c.args.column} {bottom = 24} (omega arith) (omega (arith, c.columns.ensures)),
      page_long c.in_ok-wide.wide c.args.cells c.in_ok-wide.ensures,
    )

pub returns-else-row-lt24-clause-by_rule : goal.returns-else-row-lt24-clause-by_rule
unfolding cell_given
returns-else-row-lt24-clause-by_rule c =
    elim c.else-row-lt24.branch [
      | else-row-lt24-via-then-row-lt24+else-column-columns w ↦
          no_such_column c.args.cells c.in_ok-wide.ensures (some_columns c.in_ok-wide.wide) c.args.row c.args.column (omega arith)
          (omega (arith, w.columns.ensures))
      | else-row-lt24-via-else-row-lt24 w ↦
          no_such_row c.args.cells c.in_ok-wide.ensures (some_columns c.in_ok-wide.wide) c.args.row c.args.column (omega arith)
    ]
