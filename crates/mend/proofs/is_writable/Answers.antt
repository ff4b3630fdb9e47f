-- `mend::is_writable` meets its contract.
use mathlib.Core.Bool.{false≢true}
use mathlib.Core.Path.{sym, ◌∙◌}
use borrow.Author.Tests.{eq-eqb, ne_eqb}
use Rattle.rules.specs.Writable.{writable}
use Rattle.mend.proofs.is_writable.Goals as goal
use Rattle.mend.proofs.is_writable.Goals.{then-v-eq-NULL, else-v-eq-NULL}

pub returns-then-is_stored : goal.returns-then-is_stored
unfolding writable
returns-then-is_stored c =
    elim c.if-v-eq-NULL.branch [
      | then-v-eq-NULL w ↦ rw (c.if-is_stored.true, eq-eqb c.args.v 0 w.if-v-eq-NULL.true)
      | else-v-eq-NULL w ↦
          rw (c.if-is_stored.true, ne_eqb c.args.v 0 w.if-v-eq-NULL.false, sym w.is_stored.ensures ∙ sym w.value-is ∙ c.if-is_stored.true)
    ]

pub returns-else-is_stored : goal.returns-else-is_stored
unfolding writable
returns-else-is_stored c =
    elim c.if-v-eq-NULL.branch [
      | then-v-eq-NULL w ↦ absurd (false≢true (sym c.if-is_stored.false ∙ w.value-is ∙ eq-eqb c.args.v 0 w.if-v-eq-NULL.true))
      | else-v-eq-NULL w ↦
          rw (ne_eqb c.args.v 0 w.if-v-eq-NULL.false, sym w.is_stored.ensures ∙ sym w.value-is ∙ c.if-is_stored.false) c.is_attribute_cell.ensures
    ]
