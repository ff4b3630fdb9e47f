-- `wy50::unpack::tabs_at` meets its contract. The loop: the first i tab stops are translated, and all of them are below 2; those from i on decide.
use mathlib.Core.Path.{◌≡◌}
use lib.ListN.{drop}
use Rattle.rules.specs.Cell.{both}
use Rattle.wy50.specs.Raw.{all_below, is_on}
use Rattle.wy50.proofs.Loops.{Translated}
use Rattle.wy50.proofs.unpack.tabs_at.Given as goal

abbrev pub invariant-loop-i : goal.invariant-loop-i
invariant-loop-i l =
    Translated is_on l.fn.tabs l.on l.i × (all_below 2 l.fn.tabs ≡ both l.all (all_below 2 (drop l.i l.fn.tabs)))
