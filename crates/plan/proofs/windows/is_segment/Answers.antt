-- `plan::windows::is_segment` meets its contract.
use borrow.Author.Tests.{eq-eqb, ne_eqb}
use Rattle.rules.specs.Plan.{is_segment}
use Rattle.plan.proofs.windows.is_segment.Goals as goal

pub returns-then-n-eq48 : goal.returns-then-n-eq48
unfolding is_segment
returns-then-n-eq48 c = rw (eq-eqb _ _ c.if-n-eq48.true)

pub returns-then-n-eq49 : goal.returns-then-n-eq49
unfolding is_segment
returns-then-n-eq49 c = rw (ne_eqb _ _ c.if-n-eq48.false, eq-eqb _ _ c.if-n-eq49.true)

pub returns-else-n-eq49 : goal.returns-else-n-eq49
unfolding is_segment
returns-else-n-eq49 c = rw (ne_eqb _ _ c.if-n-eq48.false, ne_eqb _ _ c.if-n-eq49.false)
