-- `repaint::painter::past` meets its contract.
use Rattle.std.specs.Prelude.{◌-◌}
use native.Mathlib.Omega.{arith}
use borrow.Author.Tests.{eq-eqb, ne_eqb}
use Rattle.repaint.proofs.painter.past.Goals as goal

pub returns-then-at-end : goal.returns-then-at-end
returns-then-at-end c = let x = c.args in rw (ne_eqb (x.end - x.at) 0 (λ e. omega (arith, c.if-at-end.true))) (omega (arith, c.if-at-end.true))

pub returns-else-at-end : goal.returns-else-at-end
returns-else-at-end c = let x = c.args in rw (eq-eqb (x.end - x.at) 0 (omega (arith, c.if-at-end.false)))
