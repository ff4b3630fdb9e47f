-- `repaint::finish` meets its contract: a law for each return. Assumes nothing.
use mathlib.Core.Path.{refl, sym, ◌∙◌}
use native.Mathlib.Omega.{arith}
use Rattle.repaint.proofs.Passing.{finish_accepted, finish_refused, page_lengths}
use Rattle.repaint.proofs.finish.Goals as goal

pub same_cells-requires : goal.same_cells-requires
same_cells-requires c = (omega arith, (page_lengths _ _ _ refl c.requires).0)

pub returns-then-same_cells : goal.returns-then-same_cells
returns-then-same_cells c = finish_accepted _ _ _ c.requires (sym c.same_cells.ensures ∙ c.if-same_cells.true)

pub returns-else-same_cells : goal.returns-else-same_cells
returns-else-same_cells c = finish_refused _ _ _ c.requires (sym c.same_cells.ensures ∙ c.if-same_cells.false)
