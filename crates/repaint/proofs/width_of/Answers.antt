-- `repaint::width_of` meets its contract. Assumes nothing.
use mathlib.Core.Path.{sym, ◌∙◌}
use native.Mathlib.Omega.{arith}
use Rattle.repaint.proofs.Passing.{width_unlike, width_alike, some_columns}
use Rattle.repaint.proofs.width_of.Goals as goal

pub returns-then-before-after : goal.returns-then-before-after
returns-then-before-after c = λ n. n (sym (width_unlike _ _ (λ e. omega arith)))

pub returns-in_err-wide : goal.returns-in_err-wide
returns-in_err-wide c =
    let e = sym (width_alike _ _ (c.if-before-after.false)) ∙ c.in_err-wide.ensures in
    rw c.from_residual.ensures (λ n. n e)

pub returns : goal.returns
returns c =
    let e = width_alike _ _ (c.if-before-after.false) in
    let k = sym e ∙ c.in_ok-wide.ensures in
    (λ z. some_columns c.in_ok-wide.wide (sym k ∙ z), c.columns.ensures ∙ sym k)
