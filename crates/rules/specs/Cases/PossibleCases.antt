-- Which states are possible, at the edges of each part of "Possible means exactly": one table. Which sequences are possible is in Reach too.
use Rattle.std.specs.Prelude.{Bool, true, false, not, List, [], ◌∷◌, ◌++◌, ℕ, ◌-◌, replicate, set}
use Rattle.rules.specs.declared.State.{State}
use Rattle.rules.specs.declared.Setup.{Setup}
use Rattle.rules.specs.declared.Pending.{Pending}
use Rattle.rules.specs.declared.Pending.TheVariants as Pending
use Rattle.rules.specs.declared.Slot.TheVariants as Slot
use Rattle.rules.specs.declared.Short.TheVariants as Short
use Rattle.rules.specs.declared.Place.TheVariants as Place
use Rattle.rules.specs.declared.Sending.{Sending}
use Rattle.rules.specs.declared.Sending.TheVariants as Sending
use Rattle.rules.specs.Cell.{both}
use Rattle.rules.specs.State.{with_attribute, awaiting, with_sending, with_tabs, with_attributes, with_features, with_keys, with_labels, with_message}
use Rattle.rules.specs.State.{with_shifted}
use Rattle.rules.specs.Possible.{possible}
use Rattle.rules.specs.Cases.Bench.{wy50, wy60}
use Rattle.rules.specs.Cases.Inputs.{placed_on, lower_at, belled}

-- the power-on state, but with another active segment, split row and cursors, of a narrow page and of a wide one
unfoldable pub placed : ℕ → ℕ → ℕ → ℕ → State
placed a s c d = placed_on false a s c d

unfoldable pub placed_wide : ℕ → ℕ → ℕ → ℕ → State
placed_wide a s c d = placed_on true a s c d

-- with another set-up
abbrev pub with_setup : Setup → State
with_setup u = record { core = wy50.core; sending = wy50.sending; gathered = wy50.gathered; setup = u }

-- with a key of n bytes, which are given, at a place; a label; a message; field attributes; features; a tab stop, the page wide or not; the shifted
-- line on
unfoldable pub keyed : ℕ → ℕ → List ℕ → State
keyed place n bytes = with_setup (with_keys wy50.setup (set wy50.setup.keys place record { len = n; bytes = bytes }))

unfoldable pub labelled_at : ℕ → ℕ → List ℕ → State
labelled_at place n bytes = with_setup (with_labels wy50.setup (set wy50.setup.labels place record { len = n; bytes = bytes }) false)

unfoldable pub messaged : ℕ → List ℕ → State
messaged n bytes = with_setup (with_message wy50.setup record { len = n; bytes = bytes })

unfoldable pub attributed : List ℕ → State
attributed l = with_setup (with_attributes wy50.setup l)

unfoldable pub featured : List ℕ → State
featured l = with_setup (with_features wy50.setup l)

unfoldable pub stopped : Bool → ℕ → State
stopped wide column = record {
  core = (placed_on wide 0 0 0 0).core;
  sending = wy50.sending;
  gathered = wy50.gathered;
  setup = with_tabs wy50.setup (set wy50.setup.tabs column true);
}

unfoldable pub shifted_on : State
shifted_on = with_setup (with_shifted wy50.setup true)

-- of each personality, with an attribute remembered
unfoldable pub remembering : State → ℕ → State
remembering s a = record { core = with_attribute s.core a; sending = s.sending; gathered = s.gathered; setup = s.setup }

-- with a text under way, or a spoilt one, of which the bytes gathered are given
unfoldable pub gathering : Pending → List ℕ → State
gathering q g = record { core = awaiting wy50.core q; sending = wy50.sending; gathered = g; setup = wy50.setup }

-- with a send under way; of the lower segment of a page split at row 13, the cursor in the third cell of row 15
abbrev pub sending : Sending → State
sending x = with_sending (lower_at 1122) x

-- the same of a wide page
abbrev pub sending_wide : Sending → State
sending_wide x = with_sending (placed_wide 1 13 0 1850) x

unfoldable pub possible_states : List State
possible_states =
    wy50
    -- split row none or 2 to 24, each cursor within its segment; unsplit the whole page for both
    ∷ placed 0 0 1919 1919
    ∷ placed 0 2 79 80
    ∷ placed 1 2 0 1919
    ∷ placed 1 24 1839 1840
    ∷ placed 0 24 0 1919
    -- a wide page (document 02, A11)
    ∷ placed_wide 0 0 3167 3167
    ∷ placed_wide 0 2 131 132
    ∷ placed_wide 1 2 0 3167
    ∷ placed_wide 1 24 3035 3036
    -- a key: at most 8 bytes below 7Fh; what lies behind them is not looked at
    ∷ keyed 0 8 (replicate 8 0x7e)
    ∷ keyed 31 8 (replicate 8 0)
    ∷ keyed 5 1 (0x61 ∷ replicate 7 0xff)
    -- a label: at most 8 of 20h to 7Eh; the message: at most 46 of them
    ∷ labelled_at 0 8 (0x20 ∷ replicate 7 0x7e)
    ∷ labelled_at 15 1 (0x61 ∷ replicate 7 0xff)
    ∷ messaged 46 (replicate 46 0x7e)
    ∷ messaged 1 (0x20 ∷ replicate 45 0)
    -- the line on with all labels empty, and off with one set
    ∷ shifted_on
    ∷ labelled_at 8 1 (0x61 ∷ replicate 7 0)
    -- a text under way: the same bytes; what lies behind them, or while no text is under way, is not looked at
    ∷ gathering (Pending.Text Slot.Message 46) (replicate 46 0x20)
    ∷ gathering (Pending.Text Slot.Message 1) (0x61 ∷ replicate 45 0xff)
    ∷ gathering (Pending.Text (Slot.Label 0x57) 8) (replicate 46 0x7e)
    ∷ gathering (Pending.Text (Slot.Key 0x6f) 8) (replicate 46 0)
    ∷ gathering (Pending.Spoilt (Slot.Label 0x30)) (replicate 46 0xff)
    ∷ gathering Pending.Idle (replicate 46 0xff)
    -- attributes and features from their lists
    ∷ attributed (0x20 ∷ 0x3f ∷ 0x70 ∷ 0x7e ∷ [])
    ∷ featured (0x30 ∷ 0x32 ∷ 0x36 ∷ 0x38 ∷ 0x3c ∷ [])
    ∷ featured (0x31 ∷ 0x35 ∷ 0x41 ∷ 0x39 ∷ 0x40 ∷ [])
    ∷ stopped false 79
    ∷ stopped true 79
    ∷ stopped true 80
    ∷ stopped true 131
    ∷ belled 255
    -- the attribute remembered: in WY-50 normal, in WY-60 any but dim with all four others
    ∷ remembering wy50 0
    ∷ remembering wy60 0
    ∷ remembering wy60 15
    ∷ remembering wy60 16
    ∷ remembering wy60 30
    -- a send: any place of its reply but the first
    ∷ sending (Sending.Short Short.Identity 1)
    ∷ sending (Sending.Short Short.Identity 2)
    ∷ sending (Sending.Short Short.Cursor 2)
    ∷ sending (Sending.Short Short.SegmentCursor 3)
    ∷ sending (Sending.Short Short.DecimalCursor 6)
    ∷ sending (Sending.Text false false (Place.Cell 1121))
    ∷ sending (Sending.Text true false (Place.Cell 1122))
    ∷ sending (Sending.Text false false Place.Return)
    ∷ sending (Sending.Text false true (Place.Cell 961))
    ∷ sending (Sending.Text false true (Place.Cell 1040))
    ∷ sending (Sending.Text true true (Place.Cell 1122))
    ∷ sending (Sending.Text true true (Place.Break 1040))
    ∷ sending (Sending.Text false true (Place.Break 1120))
    ∷ sending (Sending.Text true true Place.Return)
    -- on a wide page ESC ? and ESC / send nothing; its rows begin at other cells
    ∷ sending_wide (Sending.Short Short.Identity 2)
    ∷ sending_wide (Sending.Short Short.DecimalCursor 1)
    ∷ sending_wide (Sending.Short Short.DecimalCursor 6)
    ∷ sending_wide (Sending.Text false false (Place.Cell 1849))
    ∷ sending_wide (Sending.Text true true (Place.Break 1716))
    ∷ sending_wide (Sending.Text false true Place.Return)
    ∷ []

unfoldable pub impossible_states : List State
impossible_states =
    placed 1 0 0 0
    ∷ placed 0 0 1920 0
    ∷ placed 0 0 0 1920
    ∷ placed 0 1 0 0
    ∷ placed 0 13 960 960
    ∷ placed 0 13 0 959
    ∷ placed 0 13 0 1920
    ∷ placed 2 13 0 960
    ∷ placed 0 25 0 1919
    ∷ placed 0 25 0 1920
    ∷ placed_wide 1 0 0 0
    ∷ placed_wide 0 0 3168 0
    ∷ placed_wide 0 0 0 3168
    ∷ placed_wide 0 2 132 132
    ∷ placed_wide 0 2 0 131
    ∷ placed_wide 1 24 0 3168
    ∷ keyed 0 9 (replicate 8 0x61)
    ∷ keyed 0 1 (0x7f ∷ replicate 7 0)
    ∷ keyed 31 8 (replicate 7 0 ++ 0x80 ∷ [])
    ∷ labelled_at 0 9 (replicate 8 0x61)
    ∷ labelled_at 15 1 (0x1f ∷ replicate 7 0)
    ∷ labelled_at 0 8 (replicate 7 0x61 ++ 0x7f ∷ [])
    ∷ messaged 47 (replicate 46 0x61)
    ∷ messaged 1 (0x0d ∷ replicate 45 0)
    ∷ messaged 46 (replicate 45 0x61 ++ 0x80 ∷ [])
    ∷ gathering (Pending.Text Slot.Message 47) (replicate 46 0x61)
    ∷ gathering (Pending.Text Slot.Message 1) (replicate 46 0x1f)
    ∷ gathering (Pending.Text (Slot.Label 0x50) 9) (replicate 46 0x61)
    ∷ gathering (Pending.Text (Slot.Label 0x58) 0) (replicate 46 0x61)
    ∷ gathering (Pending.Text (Slot.Label 0x38) 0) (replicate 46 0x61)
    ∷ gathering (Pending.Text (Slot.Key 0x40) 9) (replicate 46 0x61)
    ∷ gathering (Pending.Text (Slot.Key 0x40) 1) (replicate 46 0x7f)
    ∷ gathering (Pending.Text (Slot.Key 0x50) 0) (replicate 46 0x61)
    ∷ gathering (Pending.Spoilt (Slot.Label 0x40)) (replicate 46 0)
    ∷ attributed (0x21 ∷ 0x30 ∷ 0x30 ∷ 0x30 ∷ [])
    ∷ attributed (0x30 ∷ 0x2f ∷ 0x30 ∷ 0x30 ∷ [])
    ∷ attributed (0x30 ∷ 0x30 ∷ 0x6f ∷ 0x30 ∷ [])
    ∷ attributed (0x30 ∷ 0x30 ∷ 0x30 ∷ 0x7f ∷ [])
    ∷ featured (0x35 ∷ 0x35 ∷ 0x37 ∷ 0x39 ∷ 0x40 ∷ [])
    ∷ featured (0x31 ∷ 0x31 ∷ 0x37 ∷ 0x39 ∷ 0x40 ∷ [])
    ∷ featured (0x31 ∷ 0x35 ∷ 0x42 ∷ 0x39 ∷ 0x40 ∷ [])
    ∷ featured (0x31 ∷ 0x35 ∷ 0x37 ∷ 0x3a ∷ 0x40 ∷ [])
    ∷ featured (0x31 ∷ 0x35 ∷ 0x37 ∷ 0x39 ∷ 0x3b ∷ [])
    -- a stop beyond the width
    ∷ stopped false 80
    ∷ stopped false 131
    ∷ belled 256
    ∷ remembering wy50 1
    ∷ remembering wy50 16
    ∷ remembering wy60 31
    ∷ remembering wy60 32
    -- a first place, one past the end, a US that is not there; a sequence under way as well
    ∷ sending (Sending.Short Short.Acknowledge 0)
    ∷ sending (Sending.Short Short.Acknowledge 1)
    ∷ sending (Sending.Short Short.Cell 1)
    ∷ sending (Sending.Short Short.Identity 0)
    ∷ sending (Sending.Short Short.Identity 3)
    ∷ sending (Sending.Short Short.Cursor 3)
    ∷ sending (Sending.Short Short.SegmentCursor 4)
    ∷ sending (Sending.Short Short.DecimalCursor 7)
    ∷ sending (Sending.Text false false (Place.Cell 1120))
    ∷ sending (Sending.Text false false (Place.Cell 1123))
    ∷ sending (Sending.Text false false (Place.Break 1120))
    ∷ sending (Sending.Text false true (Place.Cell 960))
    ∷ sending (Sending.Text false true (Place.Cell 1123))
    ∷ sending (Sending.Text true true (Place.Cell 0))
    ∷ sending (Sending.Text true true (Place.Break 960))
    ∷ sending (Sending.Text true true (Place.Break 1041))
    ∷ sending (Sending.Text true true (Place.Break 1200))
    ∷ sending (Sending.Text true true (Place.Break 0))
    ∷ sending_wide (Sending.Short Short.Cursor 1)
    ∷ sending_wide (Sending.Short Short.Cursor 2)
    ∷ sending_wide (Sending.Short Short.SegmentCursor 1)
    ∷ sending_wide (Sending.Short Short.SegmentCursor 2)
    ∷ sending_wide (Sending.Short Short.SegmentCursor 3)
    ∷ with_sending (placed_wide 0 0 0 0) (Sending.Short Short.Cursor 1)
    ∷ with_sending (placed_wide 0 0 0 0) (Sending.Short Short.SegmentCursor 1)
    ∷ sending_wide (Sending.Short Short.DecimalCursor 7)
    ∷ sending_wide (Sending.Text false false (Place.Cell 1848))
    ∷ sending_wide (Sending.Text true true (Place.Break 1760))
    ∷ sending_wide (Sending.Text true true (Place.Break 1584))
    ∷ with_sending (gathering Pending.Escape (replicate 46 0)) (Sending.Short Short.Identity 1)
    ∷ with_sending (gathering (Pending.AddressRow 0x20) (replicate 46 0)) (Sending.Text false false Place.Return)
    ∷ []

unfoldable pub all_possible : List State → Bool
all_possible [] = true
all_possible (s ∷ l) = both (possible s) (all_possible l)

unfoldable pub none_possible : List State → Bool
none_possible [] = true
none_possible (s ∷ l) = both (not (possible s)) (none_possible l)
