-- `terminal::fast::moves::back` meets its contract.
use mathlib.Core.Path.{refl}
use native.Mathlib.Omega.{arith}
use Rattle.terminal.specs.FastPath.{goes_back, goes_first}
use Rattle.terminal.proofs.fast.moves.back.Goals as goal

pub returns-then-ground-at : goal.returns-then-ground-at
returns-then-ground-at c p = goes_back refl (omega arith) refl

pub returns : goal.returns
returns c p = goes_first refl (omega arith) refl
