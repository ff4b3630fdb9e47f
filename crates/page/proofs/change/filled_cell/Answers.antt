-- `page::change::filled_cell` meets its contract.
use mathlib.Core.Path.{sym, ◌∙◌}
use Rattle.page.proofs.change.filled_cell.Goals as goal

pub returns-then-is_guarded : goal.returns-then-is_guarded
returns-then-is_guarded c = rw (sym c.is_guarded.ensures ∙ c.if-is_guarded.true)

pub returns-else-is_guarded : goal.returns-else-is_guarded
returns-else-is_guarded c = rw (sym c.is_guarded.ensures ∙ c.if-is_guarded.false)
