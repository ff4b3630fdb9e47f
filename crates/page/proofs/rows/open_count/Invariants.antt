-- `page::rows::open_count` meets its contract. The loop: the cells counted, and those to come, are all.
use mathlib.Core.Path.{◌≡◌}
use Prim.Native.Nat.{◌+◌, ◌≤◌}
use lib.ListN.{length, drop}
use Rattle.rules.specs.Search.{guarded_at}
use Rattle.rules.specs.RowList.{open_count}
use Rattle.page.proofs.rows.open_count.Given as goal

abbrev pub invariant-loop-v : goal.invariant-loop-v
invariant-loop-v l =
    (l.v-index ≤ length l.part) × ((l.n ≤ l.v-index) × (l.n + open_count (guarded_at l.protect (drop l.v-index l.part)) ≡ open_count (guarded_at l.protect l.part)))
