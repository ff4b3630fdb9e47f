-- `terminal::fast::text::stop` meets its contract.
use native.Mathlib.Omega.{arith}
use Rattle.terminal.proofs.fast.text.stop.Goals as goal

pub returns-then-cells-len : goal.returns-then-cells-len
returns-then-cells-len c n h = (omega arith, omega arith)

pub returns : goal.returns
returns c n h = (omega arith, omega arith)
