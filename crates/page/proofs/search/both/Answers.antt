-- `page::search::both` meets its contract.
use mathlib.Core.Bool.{false≢true}
use Rattle.page.proofs.search.both.Goals as goal

pub returns-then-a : goal.returns-then-a
returns-then-a c e = (c.if-a.true, e)

pub returns-else-a : goal.returns-else-a
returns-else-a c e = absurd (false≢true e)
