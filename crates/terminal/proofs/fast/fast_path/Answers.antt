-- `terminal::fast::fast_path` meets its contract.
use mathlib.Core.Path.{refl}
use native.Mathlib.Omega.{arith}
use Rattle.rules.proofs.Screens.{screen_inside}
use Rattle.terminal.specs.FastPath.{still, passing}
use Rattle.terminal.proofs.FastPaths.{ground_fits, passes_range}
use Rattle.terminal.proofs.fast.fast_path.Goals as goal

pub pass-requires : goal.pass-requires
pass-requires c =
    let s = screen_inside c.args.core.screen c.requires.1.0 in
    rw (c.ground_of.ensures, c.cursor_of.ensures)
    (ground_fits c.args.core c.requires.0 s c.requires.1.1.1, (s.below, omega (arith, c.requires.1.1.0)))

pub shape_of-page : goal.shape_of-page
shape_of-page c =
    let s = screen_inside c.args.core.screen c.requires.1.0 in
    (passes_range (rw (c.ground_of.ensures, c.cursor_of.ensures) at c.pass.ensures.0) (omega (arith, c.requires.1.1.0))
    s.below).size

pub returns-in-Idle : goal.returns-in-Idle
returns-in-Idle c = (
  passing c.in-Idle.is
      (rw (c.ground_of.ensures, c.cursor_of.ensures) at c.pass.ensures.0),
  c.pass.ensures.1,
)

pub returns-in_default : goal.returns-in_default
returns-in_default c = rw c.still.ensures (still, λ z. refl)
