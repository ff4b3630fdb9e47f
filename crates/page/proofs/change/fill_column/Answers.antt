-- `page::change::fill_column` meets its contract. The loop: what is left to fill makes of the page what the whole column makes of the first.
use mathlib.Core.Path.{◌≡◌, sym, ap, ◌∙◌}
use Prim.Native.Nat.{◌+◌, ◌-◌}
use native.Mathlib.Omega.{arith}
use Rattle.rules.specs.Row.{columns}
use Rattle.rules.specs.Change.{column_filled}
use Rattle.rules.proofs.Rows.{columns_width, page_small, cell_inside}
use Rattle.page.proofs.Changes.{column_step}
use Rattle.page.proofs.change.fill_column.Goals as goal

pub overflow_add-first_cell : goal.overflow_add-first_cell
unfolding column_filled
overflow_add-first_cell c =
    let i = cell_inside (columns_width c.args.wide) {row = c.loop-row.row} {bottom = 24} (omega arith) c.requires.1.1.0 in
    omega (arith, page_small (columns_width c.args.wide))

pub fill_cell-requires : goal.fill_cell-requires
unfolding column_filled
fill_cell-requires c =
    let i = cell_inside (columns_width c.args.wide) {row = c.loop-row.row} {bottom = 24} (omega arith) c.requires.1.1.0 in
    omega arith

pub loop-row-preserved : goal.loop-row-preserved
unfolding column_filled
loop-row-preserved c =
    let x = c.args in
    let l = c.loop-row in
    let f = c.fill_cell in (
      omega arith,
      (
        omega arith,
        (
          f.auto.page ∙ l.invariant.1.1.0,
          l.invariant.1.1.1
              ∙ column_step (columns x.wide) x.protect x.value x.column l.row x.bottom l.page (omega arith)
              ∙ ap (column_filled (columns x.wide) x.protect x.value x.column (x.bottom - (l.row + 1)) (l.row + 1))
              (sym (rw c.first_cell.ensures at f.ensures)),
        ),
      ),
    )

pub returns : goal.returns
unfolding column_filled
returns c =
    let e : c.args.bottom - c.loop-row.row ≡ 0 = omega arith in
    sym (c.loop-row.invariant.1.1.1 ∙ rw e)
