-- `page::rows::first_open` meets its contract: the rest of the cell's own row, and then the rows by the list.
use mathlib.Core.Path.{◌≡◌, ◌∙◌, ap, subst}
use Prim.Native.Nat.{ℕ, ◌+◌, ◌*◌, ◌/◌, ◌≤◌, ◌<◌}
use native.Mathlib.Omega.{arith}
use lib.ListN.{length, get_or}
use Rattle.rules.specs.Search.{guarded_at}
use Rattle.rules.proofs.Searching.{length_guards}
use Rattle.rules.proofs.Rows.{columns_width, page_small, rows_small}
use Rattle.rules.proofs.RowSteps.{length_list}
use Rattle.page.specs.RowList.{FirstRow}
use Rattle.rules.specs.Row.{columns}
use Rattle.page.proofs.RowSearch.{cell_inside, row_below, row_found, row_missing, here_found, here_none}
use Rattle.page.proofs.rows.first_open.Goals as goal

pub first_in_row-here-requires : goal.first_in_row-here-requires
first_in_row-here-requires c =
    let guards = guarded_at c.args.protect c.args.page.now in
    let long : length (guards) ≡ 24 * (columns c.args.wide) =
    length_guards c.args.protect c.args.page.now ∙ c.requires.0 in
    let inside : c.args.from < 24 * (columns c.args.wide) =
    cell_inside (columns_width c.args.wide) (guards) (long) c.requires.1.0 c.args.bottom c.requires.1.1.1 c.args.from c.requires.1.1.0 in
    (c.requires.0, (c.requires.1.0, inside))

pub row_end-requires : goal.row_end-requires
row_end-requires c =
    let guards = guarded_at c.args.protect c.args.page.now in
    let long : length (guards) ≡ 24 * (columns c.args.wide) =
    length_guards c.args.protect c.args.page.now ∙ c.requires.0 in
    let inside : c.args.from < 24 * (columns c.args.wide) =
    cell_inside (columns_width c.args.wide) (guards) (long) c.requires.1.0 c.args.bottom c.requires.1.1.1 c.args.from c.requires.1.1.0 in
    inside

pub returns-then-here-row_end : goal.returns-then-here-row_end
returns-then-here-row_end c =
    let guards = guarded_at c.args.protect c.args.page.now in
    let long : length (guards) ≡ 24 * (columns c.args.wide) =
    length_guards c.args.protect c.args.page.now ∙ c.requires.0 in
    here_found (columns_width c.args.wide) (guards) (long) c.requires.1.0 c.args.bottom c.requires.1.1.1 c.args.from c.requires.1.1.0
    c.first_in_row-here.ensures (omega (arith, c.if-here-row_end.true, c.row_end.ensures))

pub overflow_add-next : goal.overflow_add-next
overflow_add-next c =
    let guards = guarded_at c.args.protect c.args.page.now in
    let long : length (guards) ≡ 24 * (columns c.args.wide) =
    length_guards c.args.protect c.args.page.now ∙ c.requires.0 in
    let below : c.args.from / (columns c.args.wide) + 1 ≤ c.args.bottom =
    row_below (columns_width c.args.wide) (guards) (long) c.requires.1.0 c.args.bottom c.requires.1.1.1 c.args.from c.requires.1.1.0 in
    omega (arith, c.row_of-next.ensures, below, c.requires.1.1.1)

pub row_with_room-row-requires : goal.row_with_room-row-requires
row_with_room-row-requires c =
    let guards = guarded_at c.args.protect c.args.page.now in
    let long : length (guards) ≡ 24 * (columns c.args.wide) =
    length_guards c.args.protect c.args.page.now ∙ c.requires.0 in
    let rows : length c.args.rows.now ≡ 48 =
    ap length c.requires.1.0 ∙ length_list (columns c.args.wide) (guards) in
    let below : c.args.from / (columns c.args.wide) + 1 ≤ c.args.bottom =
    row_below (columns_width c.args.wide) (guards) (long) c.requires.1.0 c.args.bottom c.requires.1.1.1 c.args.from c.requires.1.1.0 in
    (omega (arith, c.row_of-next.ensures, below), (c.requires.1.1.1, rows))

pub overflow_mul-result : goal.overflow_mul-result
overflow_mul-result c =
    let guards = guarded_at c.args.protect c.args.page.now in
    let long : length (guards) ≡ 24 * (columns c.args.wide) =
    length_guards c.args.protect c.args.page.now ∙ c.requires.0 in
    let next : FirstRow c.args.rows.now (c.args.from / (columns c.args.wide) + 1) c.args.bottom
    c.row_with_room-row.result =
    subst (λ (k : ℕ). FirstRow c.args.rows.now (k + 1) c.args.bottom c.row_with_room-row.result)
    c.row_of-next.ensures c.row_with_room-row.ensures in
    let found : (h : c.row_with_room-row.result < c.args.bottom)
    → let l = c.args.rows.now in let n = c.row_with_room-row.result in
    (1 ≤ get_or l (2 * n + 1) 0) × ((get_or l (2 * n + 1) 0 ≤ (columns c.args.wide)) × (n * (columns c.args.wide) ≤ 3168)) =
    λ h. let f = row_found (columns_width c.args.wide) (guards) (long) c.requires.1.0 c.args.bottom c.requires.1.1.1 (next) h in
    (f.0, (f.1.0, rows_small (columns_width c.args.wide) (omega (arith, c.requires.1.1.1)))) in
    omega (arith, found c.if-row-bottom.true)

pub overflow_add-result : goal.overflow_add-result
overflow_add-result c = omega (arith, c.if-row-bottom.true, c.requires.1.1.1)

pub offset_bounds-rows-row : goal.offset_bounds-rows-row
offset_bounds-rows-row c = omega (arith, c.if-row-bottom.true, c.requires.1.1.1)

pub bounds-rows-row : goal.bounds-rows-row
bounds-rows-row c =
    let guards = guarded_at c.args.protect c.args.page.now in
    let rows : length c.args.rows.now ≡ 48 =
    ap length c.requires.1.0 ∙ length_list (columns c.args.wide) (guards) in
    omega (arith, c.if-row-bottom.true, c.requires.1.1.1, rows)

pub overflow_add-result-then-row-bottom : goal.overflow_add-result-then-row-bottom
overflow_add-result-then-row-bottom c =
    let guards = guarded_at c.args.protect c.args.page.now in
    let long : length (guards) ≡ 24 * (columns c.args.wide) =
    length_guards c.args.protect c.args.page.now ∙ c.requires.0 in
    let next : FirstRow c.args.rows.now (c.args.from / (columns c.args.wide) + 1) c.args.bottom
    c.row_with_room-row.result =
    subst (λ (k : ℕ). FirstRow c.args.rows.now (k + 1) c.args.bottom c.row_with_room-row.result)
    c.row_of-next.ensures c.row_with_room-row.ensures in
    let found : (h : c.row_with_room-row.result < c.args.bottom)
    → let l = c.args.rows.now in let n = c.row_with_room-row.result in
    (1 ≤ get_or l (2 * n + 1) 0) × ((get_or l (2 * n + 1) 0 ≤ (columns c.args.wide)) × (n * (columns c.args.wide) ≤ 3168)) =
    λ h. let f = row_found (columns_width c.args.wide) (guards) (long) c.requires.1.0 c.args.bottom c.requires.1.1.1 (next) h in
    (f.0, (f.1.0, rows_small (columns_width c.args.wide) (omega (arith, c.requires.1.1.1)))) in
    omega (arith, found c.if-row-bottom.true, page_small (columns_width c.args.wide))

pub overflow_sub-result : goal.overflow_sub-result
overflow_sub-result c =
    let guards = guarded_at c.args.protect c.args.page.now in
    let long : length (guards) ≡ 24 * (columns c.args.wide) =
    length_guards c.args.protect c.args.page.now ∙ c.requires.0 in
    let next : FirstRow c.args.rows.now (c.args.from / (columns c.args.wide) + 1) c.args.bottom
    c.row_with_room-row.result =
    subst (λ (k : ℕ). FirstRow c.args.rows.now (k + 1) c.args.bottom c.row_with_room-row.result)
    c.row_of-next.ensures c.row_with_room-row.ensures in
    let found : (h : c.row_with_room-row.result < c.args.bottom)
    → let l = c.args.rows.now in let n = c.row_with_room-row.result in
    (1 ≤ get_or l (2 * n + 1) 0) × ((get_or l (2 * n + 1) 0 ≤ (columns c.args.wide)) × (n * (columns c.args.wide) ≤ 3168)) =
    λ h. let f = row_found (columns_width c.args.wide) (guards) (long) c.requires.1.0 c.args.bottom c.requires.1.1.1 (next) h in
    (f.0, (f.1.0, rows_small (columns_width c.args.wide) (omega (arith, c.requires.1.1.1)))) in
    omega (arith, found c.if-row-bottom.true)

pub returns-then-row-bottom : goal.returns-then-row-bottom
returns-then-row-bottom c =
    let guards = guarded_at c.args.protect c.args.page.now in
    let long : length (guards) ≡ 24 * (columns c.args.wide) =
    length_guards c.args.protect c.args.page.now ∙ c.requires.0 in
    let next : FirstRow c.args.rows.now (c.args.from / (columns c.args.wide) + 1) c.args.bottom
    c.row_with_room-row.result =
    subst (λ (k : ℕ). FirstRow c.args.rows.now (k + 1) c.args.bottom c.row_with_room-row.result)
    c.row_of-next.ensures c.row_with_room-row.ensures in
    rw c.first_cell.ensures
    ((row_found (columns_width c.args.wide) (guards) (long) c.requires.1.0 c.args.bottom c.requires.1.1.1 (next) c.if-row-bottom.true).1.1
    ∙ here_none (columns_width c.args.wide) (guards) (long) c.requires.1.0 c.args.bottom c.requires.1.1.1 c.args.from c.requires.1.1.0
    c.first_in_row-here.ensures (omega (arith, c.if-here-row_end.false, c.row_end.ensures)))

pub returns-else-row-bottom : goal.returns-else-row-bottom
returns-else-row-bottom c =
    let guards = guarded_at c.args.protect c.args.page.now in
    let long : length (guards) ≡ 24 * (columns c.args.wide) =
    length_guards c.args.protect c.args.page.now ∙ c.requires.0 in
    let next : FirstRow c.args.rows.now (c.args.from / (columns c.args.wide) + 1) c.args.bottom
    c.row_with_room-row.result =
    subst (λ (k : ℕ). FirstRow c.args.rows.now (k + 1) c.args.bottom c.row_with_room-row.result)
    c.row_of-next.ensures c.row_with_room-row.ensures in
    rw c.first_cell-else-row-bottom.ensures
    (row_missing (columns_width c.args.wide) (guards) (long) c.requires.1.0 c.args.bottom c.requires.1.1.1 (next) c.if-row-bottom.false
    ∙ here_none (columns_width c.args.wide) (guards) (long) c.requires.1.0 c.args.bottom c.requires.1.1.1 c.args.from c.requires.1.1.0
    c.first_in_row-here.ensures (omega (arith, c.if-here-row_end.false, c.row_end.ensures)))
