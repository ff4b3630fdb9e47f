-- `plan::windows::second` meets its contract.
use mathlib.Core.Path.{◌∙◌}
use borrow.Author.Tests.{eq-eqb, ne_eqb}
use Rattle.rules.specs.Plan.{window_plan}
use Rattle.plan.proofs.windows.second.Goals as goal

pub returns-then-x-eq0 : goal.returns-then-x-eq0
unfolding window_plan
returns-then-x-eq0 c = c.refusing.ensures ∙ rw (eq-eqb _ _ c.if-x-eq0.true)

pub returns : goal.returns
unfolding window_plan
returns c = c.activate.ensures ∙ rw (ne_eqb _ _ c.if-x-eq0.false)
