-- `terminal::fast::moves::cell_at` meets its contract.
use Rattle.terminal.proofs.fast.moves.cell_at.Goals as goal

pub returns : goal.returns
returns c = rw c.cells.ensures
