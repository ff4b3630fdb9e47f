-- `mend::is_stored` meets its contract.
use mathlib.Core.Path.{sym, ◌∙◌}
use Rattle.mend.proofs.Judging.{too_large, not_remembered, is_text_lem, is_graphic, is_neither}
use Rattle.mend.proofs.is_stored.Goals as goal
use Rattle.mend.proofs.is_stored.Goals.{then-v-ge32768-via-then-v-ge32768, then-v-ge32768-via-else-v-ge32768+then-not-remembered_ok}

pub returns-then-v-ge32768 : goal.returns-then-v-ge32768
returns-then-v-ge32768 c =
    let x = c.args in
    elim c.then-v-ge32768.branch [
      | then-v-ge32768-via-then-v-ge32768 w ↦ too_large x.personality x.v w.if-v-ge32768.true
      | then-v-ge32768-via-else-v-ge32768+then-not-remembered_ok w ↦
          not_remembered x.personality x.v w.if-v-ge32768.false (sym w.remembered_ok.ensures ∙ w.if-not-remembered_ok.true)
    ]

pub returns-in-0 : goal.returns-in-0
returns-in-0 c =
    let x = c.args in
    is_text_lem x.personality x.v c.if-v-ge32768.false (sym c.remembered_ok.ensures ∙ c.if-not-remembered_ok.false) c.in-0.is c.is_between.ensures

pub returns-in-2 : goal.returns-in-2
returns-in-2 c =
    let x = c.args in
    is_graphic x.personality x.v c.if-v-ge32768.false (sym c.remembered_ok.ensures ∙ c.if-not-remembered_ok.false) c.in-2.is c.is_between-in-2.ensures

pub returns-in_default : goal.returns-in_default
returns-in_default c =
    let x = c.args in
    let none = c.in_default.in_default-own.rest in
    is_neither x.personality x.v c.if-v-ge32768.false (sym c.remembered_ok.ensures ∙ c.if-not-remembered_ok.false) none.0.1 none.1
