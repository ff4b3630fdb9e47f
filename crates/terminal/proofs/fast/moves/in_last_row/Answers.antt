-- `terminal::fast::moves::in_last_row` meets its contract.
use mathlib.Core.Path.{refl}
use borrow.Author.Rules.{rules}
use Rattle.terminal.proofs.fast.moves.in_last_row.Goals as goal

pub returns : goal.returns
returns c = (refl, search rules)
