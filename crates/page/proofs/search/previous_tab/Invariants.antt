-- `page::search::previous_tab` meets its contract. The loop: the last stop below here is the last one.
use mathlib.Core.Path.{◌≡◌}
use Prim.Native.Nat.{◌≤◌}
use Rattle.rules.specs.Search.{last_in}
use Rattle.page.proofs.search.previous_tab.Given as goal

abbrev pub invariant-loop-stop : goal.invariant-loop-stop
invariant-loop-stop l =
    (l.stop ≤ 132) × (last_in 0 l.tabs 0 l.column ≡ last_in 0 l.tabs 0 l.stop)
