-- `terminal::convert` meets its contract.
use mathlib.Core.Path.{refl, sym, ap, ◌∙◌}
use Rattle.std.specs.Prelude.{length}
use borrow.Author.Tests.{eq-eqb, ne_eqb}
use Rattle.rules.specs.declared.Answer.TheVariants as Answer
use Rattle.rules.proofs.Tests.{both_true}
use Rattle.rules.proofs.Convert.{is_seven, is_six, is_four, converted_length}
use Rattle.terminal.proofs.Converting.{turns_refused, turned_over, bad_target}
use Rattle.terminal.proofs.RowCalls.{long_page}
use Rattle.terminal.proofs.convert.Goals.{then-not-is_good-via-then-not-is_good, then-not-is_good-via-else-not-is_good+then-target-n}
use Rattle.terminal.proofs.convert.Goals as goal

pub returns-then-not-is_good : goal.returns-then-not-is_good
returns-then-not-is_good c =
    let x = c.args in
    turns_refused x.page.now x.state x.target.now Answer.BadCall refl
    (is_seven x.page.now x.state x.target.now
    (elim c.then-not-is_good.branch [
      | then-not-is_good-via-then-not-is_good w ↦ rw (sym c.is_good.ensures ∙ w.if-not-is_good.true)
      | then-not-is_good-via-else-not-is_good+then-target-n w ↦ bad_target x.page.now x.state x.target.now (ne_eqb _ _ (λ q. w.if-target-n.true (q ∙ sym c.cells-n.ensures)))
    ]))

pub returns-then-is_sending : goal.returns-then-is_sending
returns-then-is_sending c =
    let x = c.args in
    turns_refused x.page.now x.state x.target.now Answer.NoRoom refl
    (is_six x.page.now x.state x.target.now
    (both_true (sym c.is_good.ensures ∙ c.if-not-is_good.false) (eq-eqb _ _ (c.if-target-n.false ∙ c.cells-n.ensures)))
    (sym c.is_sending.ensures ∙ c.if-is_sending.true))

pub loses_cells-requires : goal.loses_cells-requires
loses_cells-requires c = long_page _ _ (sym c.is_good.ensures ∙ c.if-not-is_good.false)

pub returns-then-loses_cells : goal.returns-then-loses_cells
returns-then-loses_cells c =
    let x = c.args in
    turns_refused x.page.now x.state x.target.now Answer.Barred refl
    (is_four x.page.now x.state x.target.now
    (both_true (sym c.is_good.ensures ∙ c.if-not-is_good.false) (eq-eqb _ _ (c.if-target-n.false ∙ c.cells-n.ensures)))
    (sym c.is_sending.ensures ∙ c.if-is_sending.false) (sym c.loses_cells.ensures ∙ c.if-loses_cells.true))

pub convert_page-requires : goal.convert_page-requires
convert_page-requires c =
    (long_page _ _ (sym c.is_good.ensures ∙ c.if-not-is_good.false), c.if-target-n.false ∙ c.cells-n.ensures)

pub state_on-requires : goal.state_on-requires
state_on-requires c = ap length c.convert_page.ensures ∙ converted_length _ _

pub returns : goal.returns
returns c =
    let x = c.args in
    turned_over x.page.now x.state x.target.now _ _ (sym c.is_good.ensures ∙ c.if-not-is_good.false) (c.if-target-n.false ∙ c.cells-n.ensures)
    (sym c.is_sending.ensures ∙ c.if-is_sending.false)
    (sym c.loses_cells.ensures ∙ c.if-loses_cells.false) c.convert_page.ensures c.state_on.ensures
