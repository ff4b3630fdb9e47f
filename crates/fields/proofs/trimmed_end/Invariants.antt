-- `fields::trimmed_end` meets its contract. The loop: what lies behind is dropped.
use mathlib.Core.Path.{◌≡◌}
use mathlib.Core.List.{map}
use Prim.Native.Nat.{◌≤◌}
use lib.Seq.{slice}
use Rattle.rules.specs.Cell.{sent}
use Rattle.rules.specs.Fields.{trimmed}
use Rattle.fields.proofs.trimmed_end.Given as goal

abbrev pub invariant-loop-at : goal.invariant-loop-at
invariant-loop-at l =
    (l.from ≤ l.at) × ((l.at ≤ l.end) × (trimmed (map sent (slice l.from l.at l.page)) ≡ trimmed (map sent (slice l.from l.end l.page))))
