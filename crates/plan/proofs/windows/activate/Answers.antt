-- `plan::windows::activate` meets its contract.
use mathlib.Core.Path.{◌∙◌}
use Rattle.rules.specs.Plan.{activate}
use Rattle.plan.proofs.windows.activate.Goals as goal

pub returns : goal.returns
unfolding activate
returns c =
    c.settling.ensures
    ∙ rw (
      c.with_screen.ensures,
      c.cursor_of.ensures,
      c.activated-x.ensures,
    )
