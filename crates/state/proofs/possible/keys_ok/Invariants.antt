-- `state::possible::keys_ok` meets its contract. The loop: the keys from i on decide.
use Rattle.std.specs.Prelude.{◌≡◌, ◌≤◌, drop}
use Rattle.rules.specs.Slot.{texts_ok}
use Rattle.state.proofs.possible.keys_ok.Given as goal

abbrev pub invariant-loop-i : goal.invariant-loop-i
invariant-loop-i l =
    (l.i ≤ 32) × (texts_ok 0 l.keys ≡ texts_ok 0 (drop l.i l.keys))
