-- `terminal::width::home` meets its contract.
use mathlib.Core.Path.{◌∙◌}
use native.Mathlib.Omega.{arith}
use Rattle.terminal.proofs.Converting.{settles_below, home_is}
use Rattle.terminal.proofs.width.home.Goals as goal

pub overflow_cast-result : goal.overflow_cast-result
overflow_cast-result c =
    omega (
      arith,
      settles_below c.args.wide c.args.protect c.args.page.now c.requires
          (c.settle-n.ensures ∙ rw c.cells-end.ensures),
    )

pub returns : goal.returns
returns c = home_is _ _ _ _ c.cells-end.ensures c.settle-n.ensures
