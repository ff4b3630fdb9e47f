-- `page::rows::count_row` meets its contract.
use mathlib.Core.Path.{◌≡◌, ◌∙◌, ap}
use Prim.Native.Nat.{ℕ, ◌+◌, ◌-◌, ◌*◌}
use native.Mathlib.Omega.{arith}
use borrow.Rule.Slice.PartMut.{mid_len}
use lib.ListN.{take, drop, length-set}
use Rattle.rules.specs.Row.{columns}
use Rattle.rules.specs.Search.{guarded_at}
use Rattle.page.specs.RowList.{row_at}
use Rattle.page.proofs.RowList.{guards_part, row_fits}
use Rattle.page.proofs.rows.count_row.Goals as goal

pub offset_bounds-page-from : goal.offset_bounds-page-from
offset_bounds-page-from c = omega (arith, row_fits c.args.wide c.args.row c.requires.1.1)

pub slice_bounds-open_count-count : goal.slice_bounds-open_count-count
slice_bounds-open_count-count c = omega (arith, row_fits c.args.wide c.args.row c.requires.1.1)

pub slice_bounds-open_count-start : goal.slice_bounds-open_count-start
slice_bounds-open_count-start c = omega (arith, row_fits c.args.wide c.args.row c.requires.1.1)

pub slice_bounds-open_count-end : goal.slice_bounds-open_count-end
slice_bounds-open_count-end c = omega (arith, row_fits c.args.wide c.args.row c.requires.1.1)

pub open_count-count-requires : goal.open_count-count-requires
open_count-count-requires c =
    let fits = row_fits c.args.wide c.args.row c.requires.1.1 in
    omega (arith, mid_len c.first_cell-from.result c.first_cell-to.result c.args.page.now (omega (arith, fits)), fits)

pub offset_bounds-page-from-2 : goal.offset_bounds-page-from-2
offset_bounds-page-from-2 c = omega (arith, row_fits c.args.wide c.args.row c.requires.1.1)

pub slice_bounds-first_column-count : goal.slice_bounds-first_column-count
slice_bounds-first_column-count c = omega (arith, row_fits c.args.wide c.args.row c.requires.1.1)

pub slice_bounds-first_column-start : goal.slice_bounds-first_column-start
slice_bounds-first_column-start c = omega (arith, row_fits c.args.wide c.args.row c.requires.1.1)

pub slice_bounds-first_column-end : goal.slice_bounds-first_column-end
slice_bounds-first_column-end c = omega (arith, row_fits c.args.wide c.args.row c.requires.1.1)

pub first_column-first-requires : goal.first_column-first-requires
first_column-first-requires c =
    let fits = row_fits c.args.wide c.args.row c.requires.1.1 in (
      omega (arith, mid_len c.first_cell-from.result c.first_cell-to.result c.args.page.now (omega (arith, fits)), fits),
      c.open_count-count.ensures,
    )

pub bounds-rows-row-2 : goal.bounds-rows-row-2
bounds-rows-row-2 c = rw length-set (omega arith)

pub returns : goal.returns
returns c =
    let x = c.args in
    let w = columns x.wide in
    let e : (x.row + 1) * w - x.row * w ≡ w = omega (arith, row_fits x.wide x.row c.requires.1.1) in
    let part : guarded_at x.protect (take ((x.row + 1) * w - x.row * w) (drop (x.row * w) x.page.now)) ≡ row_at w (guarded_at x.protect x.page.now) x.row =
    ap (λ (n : ℕ). guarded_at x.protect (take n (drop (x.row * w) x.page.now))) e ∙ guards_part x.protect (x.row * w) w x.page.now in
    rw (c.open_count-count.ensures, c.first_column-first.ensures, c.first_cell-from.ensures, c.first_cell-to.ensures, part)
