-- `terminal::fast::edits::reverse` meets its contract.
use native.Mathlib.Omega.{arith}
use Rattle.terminal.specs.FastPath.{reverses}
use mathlib.Core.Path.{refl}
use Rattle.terminal.proofs.fast.edits.reverse.Goals as goal

pub returns : goal.returns
returns c p =
    (c.requires.0, reverses refl c.if-ground.false (omega (arith, c.if-ground-columns.false, c.columns.ensures)))
