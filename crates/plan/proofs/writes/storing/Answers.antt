-- `plan::writes::storing` meets its contract.
use Rattle.rules.specs.Plan.{storing}
use Rattle.plan.proofs.writes.storing.Goals as goal

pub returns-then-insert : goal.returns-then-insert
unfolding storing
returns-then-insert c = rw c.if-insert.true

pub returns-else-insert : goal.returns-else-insert
unfolding storing
returns-else-insert c = rw c.if-insert.false
