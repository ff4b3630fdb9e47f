-- `fields::row_text` meets its contract.
use native.Mathlib.Nat.{suc-mul}
use native.Mathlib.Numerals.{add-one}
use native.Mathlib.Omega.{arith}
use lib.ListN.{length}
use Rattle.rules.specs.Row.{columns}
use Rattle.rules.proofs.Rows.{columns_width, page_small}
use Rattle.fields.specs.declared.Refusal.{Refusal}
use Rattle.fields.specs.Given.{refusal_number}
use Rattle.fields.proofs.Reading.{page_long, some_columns, read_as, refused, no_page_row, no_row, a_row, row_fits}
use Rattle.fields.proofs.row_text.Goals as goal

pub returns-in_default : goal.returns-in_default
unfolding refusal_number
returns-in_default c =
    read_as (no_page_row c.args.page.now c.in_default.ensures c.args.row c.args.trim (length c.args.room.now)) (refused Refusal.BadCall c.args.room.now)

pub returns-then-row-ge24 : goal.returns-then-row-ge24
unfolding refusal_number
returns-then-row-ge24 c =
    read_as (no_row c.args.page.now c.in-Some.ensures (some_columns c.in-Some.wide) c.args.row c.args.trim (length c.args.room.now) c.if-row-ge24.true)
    (refused Refusal.BadArgument c.args.room.now)

pub put_text-requires : goal.put_text-requires
put_text-requires c =
    let k = columns_width c.in-Some.wide in
    let long = page_long c.in-Some.wide (length c.args.page.now) c.in-Some.ensures in
    let next = suc-mul c.args.row (columns c.in-Some.wide) in
    let fits = row_fits k long c.args.row (omega (arith, c.if-row-ge24.false)) in
    rw (c.first_cell.ensures, c.first_cell-2.ensures, add-one, next) (omega arith, (omega (arith, fits), omega (arith, long, page_small k)))

pub returns : goal.returns
returns c =
    let x = c.args in
    let next = suc-mul x.row (columns c.in-Some.wide) in
    read_as (a_row x.page.now c.in-Some.ensures (some_columns c.in-Some.wide) x.row x.trim (length x.room.now) (omega (arith, c.if-row-ge24.false)))
    (rw (c.first_cell.ensures, c.first_cell-2.ensures, add-one, next) at c.put_text.ensures)
