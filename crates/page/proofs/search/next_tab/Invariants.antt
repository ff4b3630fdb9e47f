-- `page::search::next_tab` meets its contract. The loop: the first stop from here on is the first from the start.
use mathlib.Core.Path.{◌≡◌}
use Prim.Native.Nat.{◌+◌, ◌≤◌}
use Rattle.rules.specs.Row.{columns}
use Rattle.rules.specs.Search.{first_in}
use Rattle.page.proofs.search.next_tab.Given as goal

abbrev pub invariant-loop-stop : goal.invariant-loop-stop
invariant-loop-stop l =
    (l.stop ≤ (columns l.wide)) × (first_in l.tabs (l.column + 1) (columns l.wide) ≡ first_in l.tabs l.stop (columns l.wide))
