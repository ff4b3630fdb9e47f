-- `page::search::last_sought` meets its contract. The loop: the last cell sought below here is the last one.
use mathlib.Core.Path.{◌≡◌}
use Prim.Native.Nat.{◌≤◌}
use Rattle.rules.specs.Search.{guarded_at, sought_at, last_in}
use Rattle.page.proofs.search.last_sought.Given as goal

abbrev pub invariant-loop-at : goal.invariant-loop-at
invariant-loop-at l =
    (l.first ≤ l.at) × ((l.at ≤ l.end)
    × (last_in l.none (sought_at l.sought (guarded_at l.protect l.page)) l.first l.end ≡ last_in l.none (sought_at l.sought (guarded_at l.protect l.page)) l.first l.at))
