-- `page::search::are_guarded` meets its contract. The loop: where all are so far, each of them is.
use mathlib.Core.Path.{◌≡◌}
use mathlib.Core.Bool.{true, false}
use Prim.Native.Nat.{ℕ, ◌+◌, ◌≤◌, ◌<◌}
use lib.ListN.{get_or}
use Rattle.rules.specs.Search.{guarded_at}
use Rattle.page.proofs.search.are_guarded.Given as goal

abbrev pub invariant-loop-i : goal.invariant-loop-i
invariant-loop-i l =
    (l.i ≤ 8) × (l.all ≡ true → (j : ℕ) → j < l.i → get_or (guarded_at l.protect l.page) (l.at + j) false ≡ true)
