-- The shifted line (document 02, A1): what turns it on, what turns it off, and that nothing else does.
use Rattle.std.specs.Prelude.{◌≡◌, Bool, true, false, List, ℕ, ltb, leb, eqb, length, take}
use Rattle.rules.specs.declared.State.{State}
use Rattle.rules.specs.declared.Personality.{Personality}
use Rattle.rules.specs.declared.Slot.{Slot}
use Rattle.rules.specs.declared.Slot.TheVariants as Slot
use Rattle.rules.specs.declared.Pending.{Pending}
use Rattle.rules.specs.declared.Pending.TheVariants as Pending
use Rattle.rules.specs.declared.Argument.{Argument}
use Rattle.rules.specs.declared.Argument.TheVariants as Argument
use Rattle.rules.specs.Cell.{pick, both, either}
use Rattle.rules.specs.Possible.{power_on, good}
use Rattle.rules.specs.Step.{step_rule}
use Rattle.rules.specs.Calls.{Call, Press, call_rule}

-- ESC z has come, and nothing behind it
abbrev pub slot_argument : Argument → Bool
slot_argument Argument.Address = false
slot_argument Argument.Segment = false
slot_argument Argument.Split = false
slot_argument Argument.SplitRow = false
slot_argument Argument.Attribute = false
slot_argument Argument.Graphic = false
slot_argument Argument.FillAttribute = false
slot_argument Argument.FillCode = false
slot_argument Argument.Feature = false
slot_argument Argument.FieldAttribute = false
slot_argument Argument.Slot = true

abbrev pub slot_awaited : Pending → Bool
slot_awaited Pending.Idle = false
slot_awaited Pending.Escape = false
slot_awaited (Pending.Awaits a) = slot_argument a
slot_awaited (Pending.AddressRow r) = false
slot_awaited (Pending.SegmentNumber n) = false
slot_awaited (Pending.SegmentRow n r) = false
slot_awaited (Pending.DecimalRow n row) = false
slot_awaited (Pending.DecimalColumn row n column) = false
slot_awaited (Pending.FieldNumber n) = false
slot_awaited (Pending.Text x n) = false
slot_awaited (Pending.Spoilt x) = false

-- a label's text of one character or more is under way, its field in 50h to 57h; l are the bytes gathered
abbrev pub upper_text : Slot → List ℕ → Bool
upper_text (Slot.Key v) l = false
upper_text (Slot.Label v) l = both (leb 0x50 v) (ltb 0 (length l))
upper_text Slot.Message l = false

abbrev pub upper_under_way : Pending → List ℕ → Bool
upper_under_way Pending.Idle g = false
upper_under_way Pending.Escape g = false
upper_under_way (Pending.Awaits a) g = false
upper_under_way (Pending.AddressRow r) g = false
upper_under_way (Pending.SegmentNumber n) g = false
upper_under_way (Pending.SegmentRow n r) g = false
upper_under_way (Pending.DecimalRow n row) g = false
upper_under_way (Pending.DecimalColumn row n column) g = false
upper_under_way (Pending.FieldNumber n) g = false
upper_under_way (Pending.Text x n) g = upper_text x (take n g)
upper_under_way (Pending.Spoilt x) g = false

-- DEL after ESC z turns the line off, CR after such a text on; after any other byte it is as it was
abbrev pub line_after : Pending → List ℕ → ℕ → Bool → Bool
line_after q g b was = pick (both (slot_awaited q) (eqb b 0x7f)) false (either (both (upper_under_way q g) (eqb b 0x0d)) was)

pub record ShiftedLine : Type 0 where
  pub power_on_lem : (m : Personality) → (power_on m).setup.shifted ≡ false
  pub step : (p : List ℕ) (s : State) (b room : ℕ) → good p s ≡ true
      → (step_rule p s b room).state.setup.shifted ≡ line_after s.core.pending s.gathered b s.setup.shifted
  pub bad : (p : List ℕ) (s : State) (b room : ℕ) → good p s ≡ false → (step_rule p s b room).state.setup.shifted ≡ s.setup.shifted
  pub press : (p : List ℕ) (s : State) (v room : ℕ) → (call_rule p s (Press v room)).given.state.setup.shifted ≡ s.setup.shifted
