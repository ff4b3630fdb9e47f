-- `plan::windows::split` meets its contract.
use mathlib.Core.Path.{◌≡◌, ◌∙◌}
use Rattle.std.specs.Prelude.{false}
use native.Mathlib.Omega.{arith}
use borrow.Author.Tests.{le-leb, lt-leb, lt-ltb, le-ltb}
use Rattle.rules.specs.Cell.{between}
use Rattle.rules.specs.Plan.{window_plan}
use Rattle.plan.proofs.windows.split.Goals as goal
use Rattle.plan.proofs.windows.split.Goals.{in_default-via-then-r-lt33, in_default-via-else-r-lt33+else-r-lt56}

pub returns-in-33-to-55 : goal.returns-in-33-to-55
unfolding window_plan
returns-in-33-to-55 c =
    c.settling.ensures
    ∙ rw (c.with_screen.ensures, c.split_screen.ensures, le-leb 0x21 c.args.r (omega arith), lt-ltb c.args.r 0x38 (omega arith))

pub returns-in_default : goal.returns-in_default
unfolding window_plan
returns-in_default c =
    let outside : between 0x21 0x37 c.args.r ≡ false =
    elim c.in_default.branch [
      | in_default-via-then-r-lt33 w ↦ rw (lt-leb 0x21 c.args.r (omega arith))
      | in_default-via-else-r-lt33+else-r-lt56 w ↦ rw (le-leb 0x21 c.args.r (omega arith), le-ltb c.args.r 0x38 (omega arith))
    ] in
    c.refusing.ensures ∙ rw outside
