-- A sequence under way is possible exactly if some bytes fed from power-on leave it under way, and so is a remembered attribute: the bytes, and
-- the statement.
use Rattle.std.specs.Prelude.{◌≡◌, true, List, [], ◌∷◌, ◌++◌, ℕ, zero, suc, ◌+◌, ◌/◌, ltb, length, take, replicate}
use Rattle.rules.specs.declared.State.{State}
use Rattle.rules.specs.declared.Personality.{Personality}
use Rattle.rules.specs.declared.Slot.{Slot}
use Rattle.rules.specs.declared.Slot.TheVariants as Slot
use Rattle.rules.specs.declared.Pending.{Pending}
use Rattle.rules.specs.declared.Pending.TheVariants as Pending
use Rattle.rules.specs.declared.Argument.{Argument}
use Rattle.rules.specs.declared.Argument.TheVariants as Argument
use Rattle.rules.specs.Cell.{pick}
use Rattle.rules.specs.Slot.{slot_most}
use Rattle.rules.specs.Possible.{power_on, blank, pending_ok, remembered_ok}
use Rattle.rules.specs.Send.{digit}
use Rattle.rules.specs.Calls.{Call, run_rule, play}

-- the n digits of a number
unfoldable pub digits : ℕ → ℕ → List ℕ
digits zero x = []
digits (suc n) x = digits n (x / 10) ++ digit x ∷ []

-- the bytes after ESC that an argument is awaited after
unfoldable pub opening : Argument → List ℕ
opening Argument.Address = 0x3d ∷ []
opening Argument.Segment = 0x2d ∷ []
opening Argument.Split = 0x78 ∷ []
opening Argument.SplitRow = 0x78 ∷ 0x31 ∷ []
opening Argument.Attribute = 0x47 ∷ []
opening Argument.Graphic = 0x48 ∷ []
opening Argument.FillAttribute = 0x21 ∷ []
opening Argument.FillCode = 0x2e ∷ []
opening Argument.Feature = 0x60 ∷ []
opening Argument.FieldAttribute = 0x41 ∷ []
opening Argument.Slot = 0x7a ∷ []

-- the bytes after ESC that a text begins after
unfoldable pub slot_bytes : Slot → List ℕ
slot_bytes (Slot.Key v) = 0x7a ∷ v ∷ []
slot_bytes (Slot.Label v) = 0x7a ∷ v ∷ []
slot_bytes Slot.Message = 0x46 ∷ []

-- bytes that leave a sequence under way, g being the bytes that it gathers
unfoldable pub bytes_for : Pending → List ℕ → List ℕ
bytes_for Pending.Idle g = []
bytes_for Pending.Escape g = 0x1b ∷ []
bytes_for (Pending.Awaits a) g = 0x1b ∷ opening a
bytes_for (Pending.AddressRow r) g = 0x1b ∷ 0x3d ∷ r ∷ []
bytes_for (Pending.SegmentNumber n) g = 0x1b ∷ 0x2d ∷ n ∷ []
bytes_for (Pending.SegmentRow n r) g = 0x1b ∷ 0x2d ∷ n ∷ r ∷ []
bytes_for (Pending.DecimalRow n row) g = (0x1b ∷ 0x61 ∷ []) ++ digits n row
bytes_for (Pending.DecimalColumn row n column) g = (0x1b ∷ 0x61 ∷ []) ++ (digits 2 row ++ 0x52 ∷ digits n column)
bytes_for (Pending.FieldNumber n) g = 0x1b ∷ 0x41 ∷ n ∷ []
bytes_for (Pending.Text x n) g = 0x1b ∷ (slot_bytes x ++ take n g)
bytes_for (Pending.Spoilt x) g = 0x1b ∷ (slot_bytes x ++ replicate (slot_most x + 1) 0x20)

-- the sequence q is under way in s, and, where it gathers a text, the first bytes gathered are those of g. What lies behind them, and what is
-- gathered while no text is, is no part of a state's meaning
pub record UnderWay (q : Pending) (g : List ℕ) (s : State) : Type 0 where
  pub pending : s.core.pending ≡ q
  pub text : (x : Slot) (n : ℕ) → q ≡ Pending.Text x n → take n s.gathered ≡ take n g

-- ESC G and the code of an attribute
unfoldable pub attribute_bytes : ℕ → List ℕ
attribute_bytes a = 0x1b ∷ 0x47 ∷ pick (ltb a 16) (0x30 + a) (0x60 + a) ∷ []

-- the statement, of each personality m; 46 bytes can be gathered
pub record Reach : Type 0 where
  -- bytes from power-on leave each possible sequence under way
  pub possible_reached : (m : Personality) (q : Pending) (g : List ℕ) → length g ≡ 46 → pending_ok q g ≡ true
      → UnderWay q g (run_rule blank (power_on m) (bytes_for q g) 1944).state
  -- whatever calls from power-on, they leave no other
  pub reached_possible : (m : Personality) (calls : List Call) (q : Pending) (g : List ℕ)
      → UnderWay q g (play calls blank (power_on m)).state → pending_ok q g ≡ true
  -- bytes from power-on leave each possible attribute remembered, and no calls any other
  pub attribute_reached : (m : Personality) (a : ℕ) → remembered_ok m a ≡ true
      → (run_rule blank (power_on m) (attribute_bytes a) 1944).state.core.attribute ≡ a
  pub reached_attribute : (m : Personality) (calls : List Call) → remembered_ok m (play calls blank (power_on m)).state.core.attribute ≡ true
