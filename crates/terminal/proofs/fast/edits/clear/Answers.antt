-- `terminal::fast::edits::clear` meets its contract.
use mathlib.Core.Path.{refl}
use Rattle.terminal.proofs.fast.edits.clear.Goals as goal

pub returns : goal.returns
returns c = refl
