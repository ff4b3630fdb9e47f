-- `state::possible::all_text` meets its contract.
use Rattle.std.specs.Prelude.{◌≡◌, ◌≤◌}
use lib.Seq.{slice}
use Rattle.rules.specs.Slot.{all_text}
use Rattle.state.proofs.possible.all_text.Given as goal

abbrev pub invariant-loop-i : goal.invariant-loop-i
invariant-loop-i l =
    (l.i ≤ l.n) × (all_text l.low (slice 0 l.n l.bytes) ≡ all_text l.low (slice l.i l.n l.bytes))
