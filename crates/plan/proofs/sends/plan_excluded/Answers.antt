-- `plan::sends::plan_excluded` meets its contract.
use mathlib.Core.Path.{◌∙◌}
use Rattle.rules.specs.Plan.{excluded_plan}
use Rattle.plan.proofs.sends.plan_excluded.Goals as goal

pub returns-in-ProtectOff : goal.returns-in-ProtectOff
unfolding excluded_plan
returns-in-ProtectOff c = c.plain.ensures ∙ rw (c.with_modes-off.ensures, c.with_protect.ensures, c.in-ProtectOff.is)

pub returns-in-ClearNulls : goal.returns-in-ClearNulls
unfolding excluded_plan
returns-in-ClearNulls c = c.clear_all.ensures ∙ rw c.in-ClearNulls.is

pub returns-in-ClearSpaces : goal.returns-in-ClearSpaces
unfolding excluded_plan
returns-in-ClearSpaces c = c.clear_all-in-ClearSpaces.ensures ∙ rw c.in-ClearSpaces.is

pub returns-in-ClearProtected : goal.returns-in-ClearProtected
unfolding excluded_plan
returns-in-ClearProtected c = c.clear_all-in-ClearProtected.ensures ∙ rw (c.with_modes-off.ensures, c.with_protect.ensures, c.in-ClearProtected.is)

pub returns-in-SendRow : goal.returns-in-SendRow
unfolding excluded_plan
returns-in-SendRow c = c.text.ensures ∙ rw c.in-SendRow.is

pub returns-in-SendSegment : goal.returns-in-SendSegment
unfolding excluded_plan
returns-in-SendSegment c = c.text-in-SendSegment.ensures ∙ rw c.in-SendSegment.is
