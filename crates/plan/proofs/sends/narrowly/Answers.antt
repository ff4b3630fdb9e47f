-- `plan::sends::narrowly` meets its contract.
use mathlib.Core.Path.{◌∙◌}
use Rattle.rules.specs.Plan.{unless_wide}
use Rattle.plan.proofs.sends.narrowly.Goals as goal

pub returns-then-core : goal.returns-then-core
unfolding unless_wide
returns-then-core c = c.refusing.ensures ∙ rw c.if-core.true

pub returns : goal.returns
unfolding unless_wide
returns c = c.short.ensures ∙ rw c.if-core.false
