-- `page::change::fill_column` meets its contract. The loop: what is left to fill makes of the page what the whole column makes of the first.
use mathlib.Core.Path.{◌≡◌}
use Prim.Native.Nat.{◌-◌, ◌≤◌}
use lib.ListN.{length}
use Rattle.rules.specs.Change.{column_filled}
use Rattle.rules.specs.Row.{columns}
use Rattle.page.proofs.change.fill_column.Given as goal

abbrev pub invariant-loop-row : goal.invariant-loop-row
invariant-loop-row l =
    (l.top ≤ l.row) × ((l.row ≤ l.bottom) × ((length l.page ≡ length l.initial.page)
    × (column_filled (columns l.wide) l.protect l.value l.column (l.bottom - l.top) l.top l.initial.page ≡ column_filled (columns l.wide) l.protect l.value l.column (l.bottom - l.row) l.row l.page)))
