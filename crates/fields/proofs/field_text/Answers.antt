-- `fields::field_text` meets its contract.
use mathlib.Core.Path.{sym, ◌∙◌}
use mathlib.Core.Bool.{true}
use native.Mathlib.Omega.{arith}
use lib.ListN.{length}
use Rattle.rules.specs.Row.{columns}
use Rattle.rules.specs.Search.{guarded_at}
use Rattle.rules.proofs.Searching.{length_guards, edit_range}
use Rattle.rules.proofs.Rows.{columns_width, page_small}
use Rattle.fields.specs.declared.Refusal.{Refusal}
use Rattle.fields.specs.Given.{refusal_number}
use Rattle.fields.proofs.Reading.{page_long, some_columns, read_as, refused, no_page_text, past_page, no_start, a_start}
use Rattle.fields.proofs.field_text.Goals as goal
use Rattle.fields.proofs.field_text.Goals.{then-page-start-via-then-page-start, then-page-start-via-else-page-start+then-not-starts_field}

pub returns-in_default : goal.returns-in_default
unfolding refusal_number
returns-in_default c =
    read_as (no_page_text c.args.page.now c.in_default.ensures c.args.start c.args.trim (length c.args.room.now)) (refused Refusal.BadCall c.args.room.now)

pub edit_end-requires : goal.edit_end-requires
edit_end-requires c =
    let long = page_long c.in-Some.wide (length c.args.page.now) c.in-Some.ensures in
    (long, omega (arith, long, c.if-page-start.false))

pub put_text-requires : goal.put_text-requires
put_text-requires c =
    let p = c.args.page.now in
    let k = columns_width c.in-Some.wide in
    let long = page_long c.in-Some.wide (length p) c.in-Some.ensures in
    let n = length_guards true p in
    let r = edit_range (columns c.in-Some.wide) (guarded_at true p) c.args.start k (n ∙ long) (omega (arith, long, c.if-page-start.false)) in
    rw c.edit_end.ensures (r.0, (omega (arith, n, r.1), omega (arith, long, page_small k)))

pub returns-then-page-start : goal.returns-then-page-start
unfolding refusal_number
returns-then-page-start c =
    let x = c.args in
    let z = some_columns c.in-Some.wide in
    elim c.then-page-start.branch [
      | then-page-start-via-then-page-start w ↦
          read_as (past_page x.page.now c.in-Some.ensures z x.start x.trim (length x.room.now) w.if-page-start.true) (refused Refusal.BadArgument x.room.now)
      | then-page-start-via-else-page-start+then-not-starts_field w ↦
          read_as (no_start x.page.now c.in-Some.ensures z x.start x.trim (length x.room.now) (sym w.starts_field.ensures ∙ w.if-not-starts_field.true))
          (refused Refusal.BadArgument x.room.now)
    ]

pub returns : goal.returns
returns c =
    let x = c.args in
    read_as (a_start x.page.now c.in-Some.ensures (some_columns c.in-Some.wide) x.start x.trim (length x.room.now)
    (sym c.starts_field.ensures ∙ c.if-not-starts_field.false) c.edit_end.ensures) c.put_text.ensures
