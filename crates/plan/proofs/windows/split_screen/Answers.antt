-- `plan::windows::split_screen` meets its contract.
use Rattle.plan.proofs.windows.split_screen.Goals as goal

pub returns : goal.returns
returns c = rw c.cells.ensures
