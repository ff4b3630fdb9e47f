-- `page::rows::recount` meets its contract. The loop: all rows but those to come are right.
use mathlib.Core.Path.{◌≡◌}
use Prim.Native.Nat.{◌≤◌}
use lib.ListN.{length}
use Rattle.rules.specs.Search.{guarded_at}
use Rattle.page.specs.RowList.{AllBut}
use Rattle.rules.specs.Row.{columns}
use Rattle.page.proofs.rows.recount.Given as goal

abbrev pub invariant-loop-row : goal.invariant-loop-row
invariant-loop-row l =
    (l.row ≤ l.bottom) × ((length l.rows ≡ length l.initial.rows) × AllBut (columns l.wide) (guarded_at l.protect l.page) l.rows l.row l.bottom)
