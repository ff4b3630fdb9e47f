-- `page::change::fill` meets its contract.
use mathlib.Core.Path.{sym, ap, ◌∙◌}
use mathlib.Core.Bool.{Bool}
use Rattle.rules.specs.Change.{filled}
use Rattle.page.proofs.change.fill.Goals as goal

pub returns-then-protect : goal.returns-then-protect
returns-then-protect c =
    let x = c.args in
    let on = c.if-protect.true in
    c.fill_open.ensures ∙ sym (ap (λ (b : Bool). filled b x.value x.part.now) on)

pub returns-else-protect : goal.returns-else-protect
returns-else-protect c =
    let x = c.args in
    let off = c.if-protect.false in
    c.fill_all.ensures ∙ sym (ap (λ (b : Bool). filled b x.value x.part.now) off)
