-- `carry::landing::land` meets its contract.
use mathlib.Core.Path.{◌∙◌}
use native.Mathlib.Omega.{arith}
use Rattle.rules.specs.Carry.{landed}
use Rattle.carry.proofs.Settling.{told_good, settle_range}
use Rattle.carry.proofs.landing.land.Goals as goal

pub settle_in-n-requires : goal.settle_in-n-requires
unfolding landed
settle_in-n-requires c =
    let p = c.requires in
    (p.0, (p.1.0, (told_good _ c.in-Settle.is p.1.1.0, p.1.1.1)))

pub overflow_cast-n : goal.overflow_cast-n
unfolding landed
overflow_cast-n c =
    omega (
      arith,
      settle_range c.args.core.screen c.requires.1.0 (told_good _ c.in-Settle.is c.requires.1.1.0) c.args.page.now c.requires.0
          c.args.core.modes.protect c.settle_in-n.ensures,
    )

pub returns-in-Stay : goal.returns-in-Stay
unfolding landed
returns-in-Stay c = rw c.in-Stay.is

pub returns-in-Settle : goal.returns-in-Settle
unfolding landed
returns-in-Settle c = c.with_screen.ensures ∙ rw (c.with_cursor.ensures, c.settle_in-n.ensures, c.in-Settle.is)
