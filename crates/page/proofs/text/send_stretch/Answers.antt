-- `page::text::send_stretch` meets its contract. The loop: what goes from the next cell on is what goes from the first.
use mathlib.Core.Path.{◌≡◌, subst, sym, ◌∙◌}
use Prim.Native.Nat.{ℕ}
use Rattle.page.specs.Text.{Stretch}
use native.Mathlib.Omega.{arith}
use Rattle.page.proofs.Sends.{put_begin, put_fits, put_next, put_end}
use Rattle.page.proofs.text.send_stretch.Goals as goal

pub loop-i-init : goal.loop-i-init
loop-i-init c = put_begin c.requires.0

pub returns-then-left_out : goal.returns-then-left_out
returns-then-left_out c = put_end c.loop-i.invariant (λ h. sym c.left_out.ensures ∙ c.if-left_out.true)

pub bounds-room-k : goal.bounds-room-k
bounds-room-k c = put_fits c.loop-i.invariant c.requires.1.1.1 c.loop-i-test.true

pub overflow_add-k : goal.overflow_add-k
overflow_add-k c = omega (arith, put_fits c.loop-i.invariant c.requires.1.1.1 c.loop-i-test.true)

pub loop-i-preserved : goal.loop-i-preserved
loop-i-preserved c =
    put_next c.loop-i.invariant c.requires.1.1.1 c.loop-i-test.true (sym c.left_out.ensures ∙ c.if-left_out.false)
    c.sent_code.ensures

pub returns : goal.returns
returns c =
    let x = c.args in
    let e : c.loop-i.i ≡ x.end = omega arith in
    subst (λ (j : ℕ). Stretch x.page.now x.all x.from x.end x.n x.room.now j c.loop-i.room) e
    (put_end c.loop-i.invariant (λ h. absurd (omega arith)))
