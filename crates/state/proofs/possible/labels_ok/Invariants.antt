-- `state::possible::labels_ok` meets its contract. The loop: the keys from i on decide.
use Rattle.std.specs.Prelude.{◌≡◌, ◌≤◌, drop}
use Rattle.rules.specs.Slot.{texts_ok}
use Rattle.state.proofs.possible.labels_ok.Given as goal

abbrev pub invariant-loop-i : goal.invariant-loop-i
invariant-loop-i l =
    (l.i ≤ 16) × (texts_ok 0x20 l.labels ≡ texts_ok 0x20 (drop l.i l.labels))
