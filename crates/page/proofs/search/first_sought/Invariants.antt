-- `page::search::first_sought` meets its contract. The loop: the first cell sought from here on is the first from the start.
use mathlib.Core.Path.{◌≡◌}
use Prim.Native.Nat.{◌≤◌}
use Rattle.rules.specs.Search.{guarded_at, sought_at, first_in}
use Rattle.page.proofs.search.first_sought.Given as goal

abbrev pub invariant-loop-at : goal.invariant-loop-at
invariant-loop-at l =
    (l.at ≤ l.end) × (first_in (sought_at l.sought (guarded_at l.protect l.page)) l.from l.end ≡ first_in (sought_at l.sought (guarded_at l.protect l.page)) l.at l.end)
