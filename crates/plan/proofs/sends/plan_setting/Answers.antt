-- `plan::sends::plan_setting` meets its contract.
use mathlib.Core.Path.{◌∙◌}
use Rattle.rules.specs.Plan.{setting_plan}
use Rattle.plan.proofs.sends.plan_setting.Goals as goal

pub returns-in-Tab : goal.returns-in-Tab
unfolding setting_plan
returns-in-Tab c = c.changing.ensures ∙ rw (c.cursor_column.ensures, c.in-Tab.is)

pub returns-in-ClearTabs : goal.returns-in-ClearTabs
unfolding setting_plan
returns-in-ClearTabs c = c.changing-in-ClearTabs.ensures ∙ rw c.in-ClearTabs.is

pub returns-in-Attribute : goal.returns-in-Attribute
unfolding setting_plan
returns-in-Attribute c = c.changing-in-Attribute.ensures ∙ rw c.in-Attribute.is

pub returns-in-Feature : goal.returns-in-Feature
unfolding setting_plan
returns-in-Feature c = c.changing-in-Feature.ensures ∙ rw (c.feature_place.ensures, c.in-Feature.is)

pub returns-in-HideLine : goal.returns-in-HideLine
unfolding setting_plan
returns-in-HideLine c = c.changing-in-HideLine.ensures ∙ rw c.in-HideLine.is

pub returns-in-Wish : goal.returns-in-Wish
unfolding setting_plan
returns-in-Wish c = c.changing-in-Wish.ensures ∙ rw c.in-Wish.is
