-- `page::rows::row_with_room` meets its contract. The loop: no row passed has an open cell.
use mathlib.Core.Path.{◌∙◌, ap}
use mathlib.Core.Logic.{⊎_elim}
use Prim.Native.Nat.{ℕ, ◌*◌}
use native.Mathlib.Nat.{eq-or-lt_of_le}
use native.Mathlib.Omega.{arith}
use lib.ListN.{get_or}
use Rattle.page.proofs.rows.row_with_room.Goals as goal

pub loop-row-init : goal.loop-row-init
loop-row-init c = (omega arith, (omega arith, λ k a b. absurd (omega arith)))

pub returns-then-rows-row-ne0 : goal.returns-then-rows-row-ne0
returns-then-rows-row-ne0 c =
    let l = c.loop-row in
    record { from = l.invariant.0; most = l.invariant.1.0; none = l.invariant.1.1; some = λ h. c.if-rows-row-ne0.true }

pub loop-row-preserved : goal.loop-row-preserved
loop-row-preserved c =
    let l = c.loop-row in
    let x = c.args in (
      omega arith,
      (
        omega arith,
        λ k a b. ⊎_elim
            (λ e. ap (λ (j : ℕ). get_or x.rows.now (2 * j) 0) e ∙ c.if-rows-row-ne0.false)
            (λ h. l.invariant.1.1 k a h)
            (eq-or-lt_of_le {n = k} {m = l.row} (omega arith)),
      ),
    )

pub returns : goal.returns
returns c =
    let l = c.loop-row in
    record { from = omega arith; most = omega arith; none = λ k a b. l.invariant.1.1 k a (omega arith); some = λ h. absurd (omega arith) }
