-- `fields::starts_field` meets its contract.
use mathlib.Core.Path.{sym, ◌∙◌}
use borrow.Author.Tests.{eq-eqb}
use native.Mathlib.Omega.{arith}
use Rattle.rules.proofs.Rows.{columns_width}
use Rattle.rules.proofs.Fields.{protected_start, row_start_lem, inner_cell, inner_start}
use Rattle.fields.proofs.starts_field.Goals as goal

pub returns-else-not-is_guarded_at : goal.returns-else-not-is_guarded_at
returns-else-not-is_guarded_at c =
    rw c.if-not-is_guarded_at.false
    (sym (protected_start (columns_width c.args.wide) c.args.page.now c.args.at c.requires (sym c.is_guarded_at.ensures ∙ c.if-not-is_guarded_at.false)))

pub returns-then-column_of-eq0 : goal.returns-then-column_of-eq0
returns-then-column_of-eq0 c =
    let x = c.args in
    rw (eq-eqb c.column_of.result 0 c.if-column_of-eq0.true)
    (sym (row_start_lem (columns_width c.args.wide) x.page.now x.at c.requires
    (sym c.is_guarded_at.ensures ∙ c.if-not-is_guarded_at.true)
    (sym c.column_of.ensures ∙ c.if-column_of-eq0.true)))

pub overflow_sub-at : goal.overflow_sub-at
overflow_sub-at c =
    inner_cell (columns_width c.args.wide) c.args.page.now
    c.args.at c.requires
    (λ e. c.if-column_of-eq0.false (c.column_of.ensures ∙ e))

pub is_guarded_at-requires-else-column_of-eq0 : goal.is_guarded_at-requires-else-column_of-eq0
is_guarded_at-requires-else-column_of-eq0 c = omega (arith, c.requires)

pub returns-else-column_of-eq0 : goal.returns-else-column_of-eq0
returns-else-column_of-eq0 c =
    let x = c.args in
    c.is_guarded_at-else-column_of-eq0.ensures
    ∙ sym (inner_start (columns_width c.args.wide) x.page.now x.at
    c.requires
    (sym c.is_guarded_at.ensures ∙ c.if-not-is_guarded_at.true)
    (λ e. c.if-column_of-eq0.false (c.column_of.ensures ∙ e)))
