-- `repaint::painter::stretch_end` meets its contract: what is left of the stretch ends where all of it does.
use mathlib.Core.Path.{refl, sym, ◌∙◌}
use native.Mathlib.Omega.{arith}
use Rattle.repaint.proofs.Forwards.{reach_none, reach_stop, reach_turn, reach_go}
use Rattle.repaint.proofs.painter.stretch_end.Goals as goal

pub loop-i-init : goal.loop-i-init
loop-i-init c = (omega arith, (c.requires.1.1, refl))

pub returns-then-before-i : goal.returns-then-before-i
returns-then-before-i c =
    let l = c.loop-i in
    let s = c.requires in
    omega (
      arith,
      l.invariant.1.1,
      reach_stop c.args.before.now
          c.args.after.now l.i (s.0 ∙ sym s.1.0) (omega (arith, s.0)) c.if-before-i.true,
    )

pub returns-then-i-eq0 : goal.returns-then-i-eq0
returns-then-i-eq0 c =
    let l = c.loop-i in
    let s = c.requires in
    omega (
      arith,
      l.invariant.1.1,
      reach_turn c.args.before.now
          c.args.after.now l.i (s.0 ∙ sym s.1.0) (omega (arith, s.0))
          c.if-before-i.false c.if-i-eq0.true,
    )

pub loop-i-preserved : goal.loop-i-preserved
loop-i-preserved c =
    let l = c.loop-i in
    let s = c.requires in (
      omega arith,
      (
        omega arith,
        omega (
          arith,
          l.invariant.1.1,
          reach_go c.args.before.now
              c.args.after.now l.i (s.0 ∙ sym s.1.0) (omega (arith, s.0))
              c.if-before-i.false c.if-i-eq0.false,
        ),
      ),
    )

pub returns : goal.returns
returns c =
    let l = c.loop-i in
    let s = c.requires in
    omega (
      arith,
      l.invariant.1.1,
      reach_none c.args.before.now c.args.after.now l.i
          (s.0 ∙ sym s.1.0) (omega (arith, s.0)),
    )
