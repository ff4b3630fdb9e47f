-- `mend::mend_cells` meets its contract. The loop: the cells up to the next one are mended and listed.
use Rattle.rules.specs.Row.{columns}
use Rattle.mend.proofs.Mending.{Going}
use Rattle.mend.proofs.mend_cells.Given as goal

abbrev pub invariant-loop-at : goal.invariant-loop-at
invariant-loop-at l =
    Going l.personality (columns l.wide) l.initial.page l.initial.list l.at l.n l.page l.list
