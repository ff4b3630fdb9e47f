-- `terminal::fast::scrolls` meets its contract.
use Rattle.rules.specs.Plan.{scrolls}
use Rattle.terminal.proofs.fast.scrolls.Goals as goal

pub returns-then-m : goal.returns-then-m
unfolding scrolls
returns-then-m c = rw c.if-m.true

pub returns-else-m : goal.returns-else-m
unfolding scrolls
returns-else-m c = rw c.if-m.false
