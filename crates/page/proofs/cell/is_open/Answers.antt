-- `page::cell::is_open` meets its contract.
use mathlib.Core.Path.{ap}
use mathlib.Core.Bool.{not}
use Rattle.page.proofs.cell.is_open.Goals as goal

pub returns : goal.returns
returns c = ap not c.is_guarded.ensures
