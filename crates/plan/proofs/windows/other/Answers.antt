-- `plan::windows::other` meets its contract.
use mathlib.Core.Path.{◌∙◌}
use native.Mathlib.Omega.{arith}
use borrow.Author.Tests.{eq-eqb, ne_eqb}
use Rattle.rules.specs.Plan.{window_plan}
use Rattle.rules.proofs.Screens.{active_most}
use Rattle.plan.proofs.windows.other.Goals as goal

pub returns-then-x-eq0 : goal.returns-then-x-eq0
unfolding window_plan
returns-then-x-eq0 c = c.plain.ensures ∙ rw (eq-eqb _ _ c.if-x-eq0.true)

pub overflow_sub-x : goal.overflow_sub-x
unfolding window_plan
overflow_sub-x c = omega (arith, active_most c.args.core.screen c.requires)

pub returns : goal.returns
unfolding window_plan
returns c = c.activate.ensures ∙ rw (ne_eqb _ _ c.if-x-eq0.false)
