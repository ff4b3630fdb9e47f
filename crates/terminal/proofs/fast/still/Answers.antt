-- `terminal::fast::still` meets its contract.
use mathlib.Core.Path.{ap}
use Rattle.std.specs.Prelude.{ℕ}
use Rattle.terminal.specs.declared.fast.Passed.{Passed}
use Rattle.terminal.proofs.fast.still.Goals as goal

pub returns : goal.returns
returns c = ap {B = Passed} (λ (n : ℕ). record { at = n; taken = c.args.from; refused = 0 }) c.cursor_of.ensures
