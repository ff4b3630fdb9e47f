-- `terminal::fast::moves::right` meets its contract.
use mathlib.Core.Path.{refl}
use native.Mathlib.Omega.{arith}
use Rattle.terminal.specs.FastPath.{goes_right, goes_round}
use Rattle.terminal.proofs.fast.moves.right.Goals as goal

pub returns-then-at-ground : goal.returns-then-at-ground
returns-then-at-ground c p = goes_right refl (omega arith) refl

pub returns : goal.returns
returns c p = goes_round refl (omega arith) refl
