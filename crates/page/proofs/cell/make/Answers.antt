-- `page::cell::make` meets its contract.
use native.Mathlib.Omega.{arith}
use Rattle.page.proofs.KindLaws.{kind_most}
use Rattle.page.proofs.cell.make.Goals as goal

pub overflow_add-open : goal.overflow_add-open
overflow_add-open c = omega (arith, c.number.ensures, kind_most c.args.kind)

pub overflow_add-open-2 : goal.overflow_add-open-2
overflow_add-open-2 c = omega (arith, c.number.ensures, kind_most c.args.kind)

pub overflow_add-result : goal.overflow_add-result
overflow_add-result c = omega (arith, c.number.ensures, kind_most c.args.kind)

pub returns-then-protected : goal.returns-then-protected
returns-then-protected c = rw c.if-protected.true (omega (arith, c.number.ensures))

pub returns-else-protected : goal.returns-else-protected
returns-else-protected c = rw c.if-protected.false (omega (arith, c.number.ensures))
