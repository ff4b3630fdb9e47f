-- `repaint::same_cells` meets its contract. Assumes nothing.
use native.Mathlib.Omega.{arith}
use Rattle.repaint.proofs.Passing.{same_beyond, same_parts}
use Rattle.repaint.proofs.same_cells.Goals as goal

pub returns-then-to-from : goal.returns-then-to-from
returns-then-to-from c = let x = c.args in same_beyond x.before.now x.after.now x.from x.to c.if-to-from.true

pub returns : goal.returns
returns c = same_parts _ _ _ _ (omega arith) c.requires.0 c.requires.1 c.eq.ensures
