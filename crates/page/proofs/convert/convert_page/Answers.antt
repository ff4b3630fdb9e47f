-- `page::convert::convert_page` meets its contract. The loop: the cells put, and those of before.
use mathlib.Core.Path.{refl, ap, ◌∙◌}
use lib.ListN.{length, length-set}
use native.Mathlib.Omega.{arith}
use Rattle.rules.specs.Row.{columns}
use Rattle.rules.specs.Convert.{cell_for, other_width}
use Rattle.page.proofs.Converting.{put_none, put_next, put_all}
use Rattle.page.proofs.convert.convert_page.Goals as goal

pub loop-i-init : goal.loop-i-init
loop-i-init c = (omega arith, (refl, put_none (cell_for (columns c.args.wide) (other_width c.args.wide) c.args.page.now) c.args.target.now))

pub cell_for-requires : goal.cell_for-requires
cell_for-requires c = (c.requires.0, omega (arith, c.requires.1, c.loop-i.invariant.1.0, c.loop-i-test.true))

pub bounds-target-i : goal.bounds-target-i
bounds-target-i c = omega (arith, c.loop-i-test.true)

pub loop-i-smaller : goal.loop-i-smaller
loop-i-smaller c = omega (arith, c.loop-i-test.true, c.loop-i.invariant.1.0)

pub loop-i-preserved : goal.loop-i-preserved
loop-i-preserved c =
    let l = c.loop-i in
    let more = c.loop-i-test.true in (
      omega (arith, more, l.invariant.1.0),
      (
        length-set l.target l.i _ ∙ l.invariant.1.0,
        ap (λ t. lib.ListN.set t l.i c.cell_for.result) l.invariant.1.1
            ∙ put_next (cell_for (columns c.args.wide) (other_width c.args.wide) c.args.page.now) l.i c.args.target.now
            (omega (arith, more, l.invariant.1.0)) c.cell_for.ensures,
      ),
    )

pub returns : goal.returns
returns c =
    let l = c.loop-i in
    l.invariant.1.1 ∙ put_all c.args.wide c.args.page.now l.i c.args.target.now c.requires.1
    (omega (arith, c.loop-i-test.false, l.invariant.1.0)) l.invariant.0
