-- `page::change::shift_by` meets its contract.
use mathlib.Core.Path.{sym, ap, ◌∙◌}
use mathlib.Core.Bool.{Bool}
use native.Mathlib.Omega.{arith}
use Rattle.rules.specs.Change.{shifted}
use Rattle.page.proofs.Changes.{none_shifted}
use Rattle.page.proofs.change.shift_by.Goals as goal

pub returns-then-part-count : goal.returns-then-part-count
returns-then-part-count c =
    let x = c.args in
    none_shifted x.right x.count x.value x.part.now c.requires c.if-part-count.true

pub shift_right-requires : goal.shift_right-requires
shift_right-requires c = omega (arith, c.if-part-count.false)

pub shift_left-requires : goal.shift_left-requires
shift_left-requires c = omega (arith, c.if-part-count.false)

pub returns-then-right : goal.returns-then-right
returns-then-right c =
    let x = c.args in
    c.shift_right.ensures ∙ sym (ap (λ (b : Bool). shifted b x.count x.value x.part.now)
    c.if-right.true)

pub returns-else-right : goal.returns-else-right
returns-else-right c =
    let x = c.args in
    c.shift_left.ensures ∙ sym (ap (λ (b : Bool). shifted b x.count x.value x.part.now)
    c.if-right.false)
