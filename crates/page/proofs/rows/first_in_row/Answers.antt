-- `page::rows::first_in_row` meets its contract.
use mathlib.Core.Path.{◌≡◌, ◌∙◌, sym, ap}
use Prim.Native.Nat.{ℕ, ◌+◌, ◌-◌, ◌*◌, ◌≤◌, ◌<◌}
use native.Mathlib.Omega.{arith}
use lib.ListN.{length, get_or}
use Rattle.rules.specs.Row.{columns, row_end}
use Rattle.rules.specs.Search.{guarded_at, others, first_in}
use Rattle.rules.proofs.Searching.{length_guards}
use Rattle.rules.proofs.RowSteps.{length_list}
use Rattle.rules.proofs.Rows.{columns_width}
use Rattle.page.proofs.RowSearch.{Span, row_span, row_inside, row_skipped, row_known}
use Rattle.page.proofs.rows.first_in_row.Goals as goal

pub overflow_mul-row : goal.overflow_mul-row
overflow_mul-row c =
    let below : let x = c.args in (c.row_of-row.result < 24) × (c.row_of-row.result * (columns x.wide) + (columns x.wide) ≤ 3168) =
    row_inside (columns_width c.args.wide) c.args.from c.requires.1.1 c.row_of-row.ensures in
    omega (arith, below)

pub offset_bounds-rows-row : goal.offset_bounds-rows-row
offset_bounds-rows-row c =
    let below : let x = c.args in (c.row_of-row.result < 24) × (c.row_of-row.result * (columns x.wide) + (columns x.wide) ≤ 3168) =
    row_inside (columns_width c.args.wide) c.args.from c.requires.1.1 c.row_of-row.ensures in
    omega (arith, below)

pub bounds-rows-row : goal.bounds-rows-row
bounds-rows-row c =
    let rows : length c.args.rows.now ≡ 48 =
    ap length c.requires.1.0 ∙ length_list (columns c.args.wide) (guarded_at c.args.protect c.args.page.now) in
    let below : let x = c.args in (c.row_of-row.result < 24) × (c.row_of-row.result * (columns x.wide) + (columns x.wide) ≤ 3168) =
    row_inside (columns_width c.args.wide) c.args.from c.requires.1.1 c.row_of-row.ensures in
    omega (arith, below, rows)

pub returns-then-rows-row-eq0 : goal.returns-then-rows-row-eq0
returns-then-rows-row-eq0 c =
    let x = c.args in
    rw c.row_end-stop.ensures
    (row_skipped (columns_width c.args.wide) (guarded_at x.protect x.page.now) (length_guards x.protect x.page.now ∙ c.requires.0)
    c.requires.1.0 x.from c.requires.1.1 (ap (λ (k : ℕ). get_or x.rows.now (2 * k) 0) (sym c.row_of-row.ensures) ∙ c.if-rows-row-eq0.true))

pub overflow_mul-first : goal.overflow_mul-first
overflow_mul-first c =
    let below : let x = c.args in (c.row_of-row.result < 24) × (c.row_of-row.result * (columns x.wide) + (columns x.wide) ≤ 3168) =
    row_inside (columns_width c.args.wide) c.args.from c.requires.1.1 c.row_of-row.ensures in
    omega (arith, below)

pub overflow_add-first : goal.overflow_add-first
overflow_add-first c =
    let below : let x = c.args in (c.row_of-row.result < 24) × (c.row_of-row.result * (columns x.wide) + (columns x.wide) ≤ 3168) =
    row_inside (columns_width c.args.wide) c.args.from c.requires.1.1 c.row_of-row.ensures in
    omega (arith, below)

pub offset_bounds-rows-row-2 : goal.offset_bounds-rows-row-2
offset_bounds-rows-row-2 c =
    let below : let x = c.args in (c.row_of-row.result < 24) × (c.row_of-row.result * (columns x.wide) + (columns x.wide) ≤ 3168) =
    row_inside (columns_width c.args.wide) c.args.from c.requires.1.1 c.row_of-row.ensures in
    omega (arith, below)

pub bounds-rows-row-2 : goal.bounds-rows-row-2
bounds-rows-row-2 c =
    let rows : length c.args.rows.now ≡ 48 =
    ap length c.requires.1.0 ∙ length_list (columns c.args.wide) (guarded_at c.args.protect c.args.page.now) in
    let below : let x = c.args in (c.row_of-row.result < 24) × (c.row_of-row.result * (columns x.wide) + (columns x.wide) ≤ 3168) =
    row_inside (columns_width c.args.wide) c.args.from c.requires.1.1 c.row_of-row.ensures in
    omega (arith, below, rows)

pub overflow_add-first-2 : goal.overflow_add-first-2
overflow_add-first-2 c =
    let first = get_or c.args.rows.now (2 * c.row_of-row.result + 1) 0 in
    let known : let x = c.args in let r = c.row_of-row.result in
    (1 ≤ first) × ((first ≤ (columns x.wide)) × (x.from ≤ r * (columns x.wide) + first - 1
    → r * (columns x.wide) + first - 1 ≡ first_in (others (guarded_at x.protect x.page.now)) x.from (row_end (columns x.wide) x.from))) =
    let x = c.args in
    row_known (columns_width c.args.wide) (guarded_at x.protect x.page.now) (length_guards x.protect x.page.now ∙ c.requires.0)
    c.requires.1.0 x.from c.requires.1.1 c.row_of-row.ensures c.if-rows-row-eq0.false in
    let below : let x = c.args in (c.row_of-row.result < 24) × (c.row_of-row.result * (columns x.wide) + (columns x.wide) ≤ 3168) =
    row_inside (columns_width c.args.wide) c.args.from c.requires.1.1 c.row_of-row.ensures in
    omega (arith, known, below)

pub overflow_sub-first : goal.overflow_sub-first
overflow_sub-first c =
    let first = get_or c.args.rows.now (2 * c.row_of-row.result + 1) 0 in
    let known : let x = c.args in let r = c.row_of-row.result in
    (1 ≤ first) × ((first ≤ (columns x.wide)) × (x.from ≤ r * (columns x.wide) + first - 1
    → r * (columns x.wide) + first - 1 ≡ first_in (others (guarded_at x.protect x.page.now)) x.from (row_end (columns x.wide) x.from))) =
    let x = c.args in
    row_known (columns_width c.args.wide) (guarded_at x.protect x.page.now) (length_guards x.protect x.page.now ∙ c.requires.0)
    c.requires.1.0 x.from c.requires.1.1 c.row_of-row.ensures c.if-rows-row-eq0.false in
    omega (arith, known)

pub returns-then-from-first : goal.returns-then-from-first
returns-then-from-first c =
    let first = get_or c.args.rows.now (2 * c.row_of-row.result + 1) 0 in
    let known : let x = c.args in let r = c.row_of-row.result in
    (1 ≤ first) × ((first ≤ (columns x.wide)) × (x.from ≤ r * (columns x.wide) + first - 1
    → r * (columns x.wide) + first - 1 ≡ first_in (others (guarded_at x.protect x.page.now)) x.from (row_end (columns x.wide) x.from))) =
    let x = c.args in
    row_known (columns_width c.args.wide) (guarded_at x.protect x.page.now) (length_guards x.protect x.page.now ∙ c.requires.0)
    c.requires.1.0 x.from c.requires.1.1 c.row_of-row.ensures c.if-rows-row-eq0.false in
    rw (← c.first_cell.ensures) at known.1.1 c.if-from-first.true

pub first_sought-requires : goal.first_sought-requires
first_sought-requires c =
    let span : Span (columns c.args.wide) c.args.from =
    row_span (columns_width c.args.wide) c.args.from c.requires.1.1 in
    let p = span in
    omega (arith, c.row_end-stop.ensures, p, c.requires.0)

pub returns : goal.returns
returns c = c.first_sought.ensures ∙ rw c.row_end-stop.ensures
