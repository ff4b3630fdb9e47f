-- `state::possible::tabs_ok` meets its contract. The loop: no stop was seen, and the tab stops from i on decide.
use Rattle.std.specs.Prelude.{◌≡◌, drop}
use Rattle.rules.specs.Cell.{both}
use Rattle.rules.specs.Possible.{no_stops, tabs_ok}
use Rattle.state.proofs.possible.tabs_ok.Given as goal

abbrev pub invariant-loop-i : goal.invariant-loop-i
invariant-loop-i l = tabs_ok l.width l.tabs ≡ both l.none (no_stops (drop l.i l.tabs))
