-- `plan::writes::takes_cell` meets its contract. Each arm is a clause of the definition.
use Rattle.rules.specs.Plan.{takes_cell}
use Rattle.plan.proofs.writes.takes_cell.Goals as goal

pub returns-in-Wy50 : goal.returns-in-Wy50
unfolding takes_cell
returns-in-Wy50 c = rw c.in-Wy50.is

pub returns-in-Wy60 : goal.returns-in-Wy60
unfolding takes_cell
returns-in-Wy60 c = rw c.in-Wy60.is
