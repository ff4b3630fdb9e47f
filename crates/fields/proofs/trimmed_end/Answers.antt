-- `fields::trimmed_end` meets its contract. The loop: what lies behind is dropped.
use mathlib.Core.Path.{◌≡◌, refl, ◌∙◌}
use Prim.Native.Nat.{◌+◌, ◌-◌}
use native.Mathlib.Omega.{arith}
use Rattle.fields.proofs.Texts.{text_keep, text_drop, text_none}
use Rattle.fields.proofs.trimmed_end.Goals as goal

pub loop-at-init : goal.loop-at-init
loop-at-init c = (omega arith, (omega arith, refl))

pub returns-then-sent_code-ne32 : goal.returns-then-sent_code-ne32
returns-then-sent_code-ne32 c =
    let x = c.args in
    let l = c.loop-at in
    let k = c.requires in
    let e : l.at - 1 + 1 ≡ l.at = omega (arith, c.loop-at-test.true) in
    rw e (
      l.invariant.0,
      (
        l.invariant.1.0,
        text_keep x.from l.at x.page.now c.loop-at-test.true (omega (arith, k.1.0, l.invariant.1.0))
            c.sent_code.ensures c.if-sent_code-ne32.true ∙ l.invariant.1.1,
      ),
    )

pub loop-at-preserved : goal.loop-at-preserved
loop-at-preserved c =
    let x = c.args in
    let l = c.loop-at in
    let k = c.requires in (
      omega (arith, c.loop-at-test.true),
      (
        omega (arith, l.invariant.1.0),
        text_drop x.from l.at x.page.now c.loop-at-test.true (omega (arith, k.1.0, l.invariant.1.0))
            c.sent_code.ensures c.if-sent_code-ne32.false ∙ l.invariant.1.1,
      ),
    )

pub returns : goal.returns
returns c =
    let x = c.args in
    let l = c.loop-at in
    let e : l.at ≡ x.from = omega (arith, l.invariant.0, c.loop-at-test.false) in
    (omega arith, (omega arith, text_none x.from x.from x.page.now refl ∙ rw e at l.invariant.1.1))
