-- Bytes of a sequence that are awaited: below 80h, each of them, and none completes, gathers or refuses anything.
use Rattle.std.specs.Prelude.{◌≡◌, ℕ, ◌+◌, ◌<◌, List, length, slice_index}
use Rattle.rules.specs.declared.Decoded.{Decoded}
use Rattle.rules.specs.declared.Pending.{Pending}
use Rattle.rules.specs.Decode.{decode_rule}

-- from the byte i₀ of the input l with q₀ under way, to the byte and what is under way given last
pub data Waits (l : List ℕ) (q₀ : Pending) (i₀ : ℕ) : Pending → ℕ → Type 0 where
  begun : Waits l q₀ i₀ q₀ i₀
  next : {q r : Pending} {i : ℕ} → Waits l q₀ i₀ q i → i < length l → slice_index l i < 128 → decode_rule q (slice_index l i) ≡ Decoded.Wait r
      → Waits l q₀ i₀ r (i + 1)

-- d is what the byte i comes to with q under way, if there is such a byte, and one below 80h
abbrev pub Reads : List ℕ → Pending → ℕ → Decoded → Type 0
Reads l q i d = i < length l → slice_index l i < 128 → d ≡ decode_rule q (slice_index l i)
