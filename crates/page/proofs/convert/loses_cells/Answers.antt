-- `page::convert::loses_cells` meets its contract. The loop: no cell so far is lost.
use mathlib.Core.Path.{sym, ◌∙◌}
use native.Mathlib.Omega.{arith}
use Rattle.page.proofs.Converting.{wide_loses, lost_begins, lost_here, lost_later, lost_none}
use Rattle.page.proofs.convert.loses_cells.Goals as goal

pub returns-then-not-wide : goal.returns-then-not-wide
returns-then-not-wide c = wide_loses c.args.page.now c.args.wide (c.if-not-wide.true)

pub loop-i-init : goal.loop-i-init
loop-i-init c = (omega arith, lost_begins c.args.page.now c.args.wide (c.if-not-wide.false))

pub bounds-page-i : goal.bounds-page-i
bounds-page-i c = c.loop-i-test.true

pub returns-then-is_lost : goal.returns-then-is_lost
returns-then-is_lost c =
    let l = c.loop-i in
    sym (l.invariant.1 ∙ lost_here c.args.page.now l.i c.loop-i-test.true (sym c.is_lost.ensures ∙ c.if-is_lost.true))

pub loop-i-smaller : goal.loop-i-smaller
loop-i-smaller c = omega (arith, c.loop-i-test.true)

pub loop-i-preserved : goal.loop-i-preserved
loop-i-preserved c =
    let l = c.loop-i in (
      omega (arith, c.loop-i-test.true),
      l.invariant.1 ∙ lost_later c.args.page.now l.i c.loop-i-test.true (sym c.is_lost.ensures ∙ c.if-is_lost.false),
    )

pub returns : goal.returns
returns c =
    let l = c.loop-i in
    sym (l.invariant.1 ∙ lost_none c.args.page.now l.i c.loop-i-test.false)
