-- `page::change::shift_rows` meets its contract.
use mathlib.Core.Path.{refl}
use mathlib.Core.Logic.{inl, inr}
use native.Mathlib.Omega.{arith}
use Rattle.rules.proofs.Rows.{columns_width, rows_le}
use Rattle.page.proofs.Changes.{wide_columns, narrow_columns, rows_lent, rows_moved}
use Rattle.page.proofs.change.shift_rows.Goals as goal

pub shift-requires : goal.shift-requires
shift-requires c =
    let x = c.args in
    let k = c.requires in (
      inr (inr refl),
      rows_lent x.wide (wide_columns c.if-wide.true) x.top x.bottom c.first_cell.ensures c.first_cell-2.ensures x.page.now k.0
          (omega (arith, rows_le (columns_width x.wide) k.1.0)),
    )

pub shift-requires-else-wide : goal.shift-requires-else-wide
shift-requires-else-wide c =
    let x = c.args in
    let k = c.requires in (
      inr (inl refl),
      rows_lent x.wide (narrow_columns c.if-wide.false) x.top x.bottom c.first_cell.ensures c.first_cell-2.ensures x.page.now k.0
          (omega (arith, rows_le (columns_width x.wide) k.1.0)),
    )

pub returns-then-wide : goal.returns-then-wide
returns-then-wide c =
    let x = c.args in
    rows_moved x.wide x.down (wide_columns c.if-wide.true) x.top x.bottom c.first_cell.ensures c.first_cell-2.ensures x.page.now c.shift.ensures

pub returns-else-wide : goal.returns-else-wide
returns-else-wide c =
    let x = c.args in
    rows_moved x.wide x.down (narrow_columns c.if-wide.false) x.top x.bottom c.first_cell.ensures c.first_cell-2.ensures x.page.now c.shift-else-wide.ensures
