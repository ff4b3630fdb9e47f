-- `fields::next_field` meets its contract.
use mathlib.Core.Path.{◌∙◌, refl}
use mathlib.Core.Bool.{true}
use native.Mathlib.Omega.{arith}
use lib.ListN.{length}
use Rattle.rules.specs.Row.{columns}
use Rattle.rules.specs.Search.{guarded_at}
use Rattle.rules.proofs.Searching.{length_guards, edit_range}
use Rattle.rules.proofs.Rows.{columns_width, page_small}
use Rattle.rules.specs.Fields.{next_start}
use Rattle.fields.specs.Given.{field_given}
use Rattle.fields.proofs.Reading.{page_long, some_columns, no_page_field, no_field_lem, a_field, made}
use Rattle.fields.proofs.Fields.{fields_are_stretches, next_is_first}
use Rattle.fields.proofs.next_field.Goals as goal

pub returns-in_err-wide-clause-by_rule : goal.returns-in_err-wide-clause-by_rule
unfolding field_given
returns-in_err-wide-clause-by_rule c = rw c.from_residual.ensures (no_page_field c.args.page.now c.in_err-wide.ensures c.args.from)

pub next_start-requires : goal.next_start-requires
next_start-requires c =
    omega (arith, page_long c.in_ok-wide.wide (length c.args.page.now) c.in_ok-wide.ensures, page_small (columns_width c.in_ok-wide.wide))

pub returns-in_err-start-clause-by_rule : goal.returns-in_err-start-clause-by_rule
unfolding field_given
returns-in_err-start-clause-by_rule c =
    rw c.from_residual-in_err-start.ensures
    (no_field_lem c.args.page.now c.in_ok-wide.ensures (some_columns c.in_ok-wide.wide) c.args.from refl c.in_err-start.ensures)

pub edit_end-requires : goal.edit_end-requires
edit_end-requires c =
    let long = page_long c.in_ok-wide.wide (length c.args.page.now) c.in_ok-wide.ensures in
    (long, omega (arith, long, c.in_ok-start.ensures))

pub overflow_sub-result : goal.overflow_sub-result
overflow_sub-result c =
    let p = c.args.page.now in
    let long = page_long c.in_ok-wide.wide (length p) c.in_ok-wide.ensures in
    let r = edit_range (columns c.in_ok-wide.wide) (guarded_at true p) c.in_ok-start.start (columns_width c.in_ok-wide.wide) (length_guards true p ∙ long)
    (omega (arith, long, c.in_ok-start.ensures)) in
    rw c.edit_end.ensures r.0

pub returns-clause-by_rule : goal.returns-clause-by_rule
unfolding field_given
returns-clause-by_rule c =
    let p = c.args.page.now in
    made (columns c.in_ok-wide.wide) p c.in_ok-start.start c.edit_end.ensures c.row_of.ensures c.column_of.ensures
    ∙ a_field p c.in_ok-wide.ensures (some_columns c.in_ok-wide.wide) c.args.from c.in_ok-start.ensures.1
    (c.in_ok-start.ensures.0)

pub returns-clause-some_cell : goal.returns-clause-some_cell
returns-clause-some_cell c =
    let p = c.args.page.now in
    let w = columns c.in_ok-wide.wide in
    let long = page_long c.in_ok-wide.wide (length p) c.in_ok-wide.ensures in
    let first = next_is_first w p c.args.from in
    let starts = first.starts (rw (← c.in_ok-start.ensures.1) c.in_ok-start.ensures.0) in
    let some = (fields_are_stretches w p (columns_width c.in_ok-wide.wide) long (next_start w p c.args.from) starts).some in
    omega (arith, c.edit_end.ensures, rw (← c.in_ok-start.ensures.1) at some)
