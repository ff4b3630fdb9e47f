-- `plan::writes::attribute_of` meets its contract.
use native.Mathlib.Omega.{arith}
use borrow.Author.Tests.{lt-ltb, le-ltb}
use Rattle.rules.specs.Arguments.{attribute_of}
use Rattle.plan.proofs.writes.attribute_of.Goals as goal

pub returns-then-a-lt112 : goal.returns-then-a-lt112
unfolding attribute_of
returns-then-a-lt112 c = rw (lt-ltb _ _ c.if-a-lt112.true) (omega arith)

pub returns-else-a-lt112 : goal.returns-else-a-lt112
unfolding attribute_of
returns-else-a-lt112 c = rw (le-ltb _ _ c.if-a-lt112.false)
