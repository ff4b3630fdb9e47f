-- The store of the function keys (document 02, A4), the statement: thirty-two keys of eight bytes are 256. So the total could not pass the limit
-- of answer 5, which is unused.
use Rattle.std.specs.Prelude.{◌≡◌, true, List, [], ◌∷◌, ℕ, ◌+◌, ◌≤◌, length, take}
use Rattle.rules.specs.declared.State.{State}
use Rattle.rules.specs.declared.Text.{Text}
use Rattle.rules.specs.declared.Slot.TheVariants as Slot
use Rattle.rules.specs.State.{stored}
use Rattle.rules.specs.Slot.{text_ok}
use Rattle.rules.specs.Possible.{possible}
use Rattle.rules.specs.Step.{step_rule}

-- the key bytes in all
unfoldable pub key_bytes : List (Text 8) → ℕ
key_bytes [] = 0
key_bytes (k ∷ ks) = k.len + key_bytes ks

-- of a possible state, which has 32 keys
pub record KeyStore (s : State) : Type 0 where
  -- its key bytes
  pub total : key_bytes s.setup.keys ≤ 256
  -- and those after any key is programmed with any text that a key can gather
  pub programmed : (v n : ℕ) (g : List ℕ) → text_ok 0 8 n g ≡ true → key_bytes (stored (Slot.Key v) (take n g) s.setup).keys ≤ 256

abbrev pub KeyStores : Type 0
KeyStores = (s : State) → length s.setup.keys ≡ 32 → possible s ≡ true → KeyStore s

-- no step answers 5
abbrev pub Unused : Type 0
Unused = (p : List ℕ) (s : State) (b room : ℕ) → (step_rule p s b room).answer ≡ 5 → ⊥
