-- `plan::windows::plan_window` meets its contract.
use mathlib.Core.Path.{◌∙◌}
use Rattle.rules.specs.Plan.{window_plan}
use Rattle.plan.proofs.windows.plan_window.Goals as goal

pub returns-in-Unsplit : goal.returns-in-Unsplit
unfolding window_plan
returns-in-Unsplit c =
    c.settling.ensures
    ∙ rw (
      c.with_screen.ensures,
      c.unsplit_screen.ensures,
      c.in-Unsplit.is,
    )

pub returns-in-Split : goal.returns-in-Split
unfolding window_plan
returns-in-Split c = c.split.ensures ∙ rw c.in-Split.is

pub returns-in-Other : goal.returns-in-Other
unfolding window_plan
returns-in-Other c = c.other.ensures ∙ rw c.in-Other.is

pub returns-in-First : goal.returns-in-First
unfolding window_plan
returns-in-First c = c.activate.ensures ∙ rw c.in-First.is

pub returns-in-Second : goal.returns-in-Second
unfolding window_plan
returns-in-Second c = c.second.ensures ∙ rw c.in-Second.is

pub returns-in-Place : goal.returns-in-Place
unfolding window_plan
returns-in-Place c = c.place.ensures ∙ rw c.in-Place.is
