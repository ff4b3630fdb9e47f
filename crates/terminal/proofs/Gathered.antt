-- A byte is gathered only while there is room for it.
-- Assumes nothing.
use Rattle.std.specs.Prelude.{◌≡◌, ℕ, ◌+◌, ◌<◌, true, List, set}
use mathlib.Core.Path.{sym, subst, ◌∙◌}
use native.Mathlib.Omega.{arith}
use Rattle.rules.specs.declared.Decoded.{Decoded}
use Rattle.rules.specs.declared.Pending.{Pending}
use Rattle.rules.specs.declared.Slot.{Slot}
use Rattle.rules.specs.Possible.{pending_ok}
use Rattle.rules.specs.Slot.{slot_ok, slot_low, slot_most}
use Rattle.rules.specs.Decode.{decode_rule}
use Rattle.rules.proofs.Tests.{both_parts}
use Rattle.rules.proofs.Texts.{text_parts}
use Rattle.rules.proofs.Decoding.{decoded_ok, decoded_ok_lem}
use Rattle.state.proofs.Gathered.{most_fits}

pub gather_room : (q : Pending) (g : List ℕ) (b : ℕ) → b < 128 → pending_ok q g ≡ true → {d : Decoded} {x : Slot} {n y : ℕ}
    → d ≡ decode_rule q b → d ≡ Decoded.Gather x n y → n < 46
unfolding decoded_ok pending_ok
gather_room q g b h k {d} {x} {n} {y} e f =
    let r = subst (λ (z : Decoded). decoded_ok g z ≡ true) (sym e ∙ f) (decoded_ok_lem q g b h k) in
    let t = text_parts (slot_low x) (slot_most x) (n + 1) (set g n y) (both_parts (slot_ok x) _ r).1 in
    omega (arith, t.0, most_fits x)
