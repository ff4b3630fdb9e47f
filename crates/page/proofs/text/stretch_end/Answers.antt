-- `page::text::stretch_end` meets its contract. The loop: no cell so far gives a byte.
use mathlib.Core.Path.{◌≡◌, subst, sym, ◌∙◌}
use Prim.Native.Nat.{ℕ}
use Rattle.page.specs.Text.{Skipped}
use native.Mathlib.Omega.{arith}
use Rattle.page.proofs.Sends.{skip_none, skip_begin, skip_next, skip_end}
use Rattle.page.proofs.text.stretch_end.Goals as goal

pub returns-then-not-after : goal.returns-then-not-after
returns-then-not-after c = skip_none c.requires.0 (c.if-not-after.true)

pub loop-i-init : goal.loop-i-init
loop-i-init c = skip_begin c.requires.0

pub returns-then-not-left_out : goal.returns-then-not-left_out
returns-then-not-left_out c =
    skip_end c.loop-i.invariant (c.if-not-after.false)
    (λ h. sym c.left_out.ensures ∙ c.if-not-left_out.true)

pub loop-i-preserved : goal.loop-i-preserved
loop-i-preserved c =
    skip_next c.loop-i.invariant c.loop-i-test.true
    (sym c.left_out.ensures ∙ c.if-not-left_out.false)

pub returns : goal.returns
returns c =
    let x = c.args in
    let e : c.loop-i.i ≡ x.end = omega arith in
    subst (λ (j : ℕ). Skipped x.page.now x.all x.after x.from x.end j) e
    (skip_end c.loop-i.invariant (c.if-not-after.false) (λ h. absurd (omega arith)))
