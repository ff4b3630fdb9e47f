-- `page::search::row_end` meets its contract.
use mathlib.Core.Path.{◌∙◌, ap}
use Prim.Native.Nat.{ℕ, ◌+◌, ◌*◌}
use native.Mathlib.Omega.{arith}
use Rattle.rules.specs.Row.{columns, row_end}
use Rattle.rules.proofs.Rows.{columns_width}
use Rattle.page.proofs.RowSearch.{row_span}
use Rattle.page.proofs.search.row_end.Goals as goal

pub first_cell-requires : goal.first_cell-requires
first_cell-requires c = omega (arith, (row_span (columns_width c.args.wide) c.args.at c.requires).row)

pub returns : goal.returns
unfolding row_end
returns c = c.first_cell.ensures ∙ ap (λ (k : ℕ). (k + 1) * columns c.args.wide) c.row_of.ensures
