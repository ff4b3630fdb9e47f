-- `page::rows::open_cell` meets its contract.
use mathlib.Core.Path.{sym, ◌∙◌}
use Rattle.rules.specs.Search.{which_cells}
use Rattle.page.proofs.rows.open_cell.Goals as goal

pub returns-then-is_guarded : goal.returns-then-is_guarded
unfolding which_cells
returns-then-is_guarded c = rw (sym c.is_guarded.ensures ∙ c.if-is_guarded.true)

pub returns-else-is_guarded : goal.returns-else-is_guarded
unfolding which_cells
returns-else-is_guarded c = rw (sym c.is_guarded.ensures ∙ c.if-is_guarded.false)
