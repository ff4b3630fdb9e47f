-- `page::convert::loses_cells` meets its contract. The loop: no cell so far is lost.
use Prim.Native.Nat.{◌≤◌}
use lib.ListN.{length}
use Rattle.page.proofs.Converting.{LostFrom}
use Rattle.page.proofs.convert.loses_cells.Given as goal

abbrev pub invariant-loop-i : goal.invariant-loop-i
invariant-loop-i l =
    (l.i ≤ length l.page) × LostFrom l.wide l.page l.i
