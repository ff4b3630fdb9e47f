-- `terminal::sequence::awaited` meets its contract. The loop: the bytes up to i are awaited, and leave q under way.
use mathlib.Core.Path.{sym, ◌∙◌}
use native.Mathlib.Omega.{arith}
use Rattle.terminal.specs.Sequence.{begun, next}
use Rattle.terminal.proofs.Sequences.{waits_ok}
use Rattle.terminal.proofs.sequence.awaited.Goals as goal

pub loop-i-init : goal.loop-i-init
loop-i-init c = (begun, c.requires.1)

pub returns-then-b-ge128 : goal.returns-then-b-ge128
returns-then-b-ge128 c = let l = c.loop-i in (l.invariant.0, λ h low. absurd (omega (arith, low, c.if-b-ge128.true)))

pub decode-d-requires : goal.decode-d-requires
decode-d-requires c =
    let l = c.loop-i in
    let g = c.requires.0 in
    (g.0, waits_ok g.0 g.1 l.invariant.0)

pub loop-i-preserved : goal.loop-i-preserved
loop-i-preserved c = (
  next c.loop-i.invariant.0 c.loop-i-test.true c.if-b-ge128.false (sym c.decode-d.ensures ∙ c.in-Wait.is),
  omega
      (arith, c.loop-i-test.true),
)

pub returns-in_default : goal.returns-in_default
returns-in_default c = (c.loop-i.invariant.0, λ h low. c.decode-d.ensures)

pub returns : goal.returns
returns c = (c.loop-i.invariant.0, λ h low. absurd (omega (arith, h, c.loop-i-test.false)))
