-- `page::rows::row_with_room` meets its contract. The loop: no row passed has an open cell.
use mathlib.Core.Path.{◌≡◌}
use Prim.Native.Nat.{ℕ, ◌*◌, ◌≤◌, ◌<◌}
use lib.ListN.{get_or}
use Rattle.page.proofs.rows.row_with_room.Given as goal

abbrev pub invariant-loop-row : goal.invariant-loop-row
invariant-loop-row l =
    (l.from ≤ l.row) × ((l.row ≤ l.bottom) × ((k : ℕ) → l.from ≤ k → k < l.row → get_or l.rows (2 * k) 0 ≡ 0))
