-- The power-on state, and which states are "possible" (document 01, "Possible means exactly").
use Rattle.std.specs.Prelude.{ℕ, zero, suc, ◌+◌, ◌-◌, ◌*◌, ◌^◌, List, [], ◌∷◌, Bool, true, false, not, length, get_or, drop, replicate, ltb, leb, eqb}
use Rattle.rules.specs.declared.Core.{Core}
use Rattle.rules.specs.declared.Setup.{Setup}
use Rattle.rules.specs.declared.State.{State}
use Rattle.rules.specs.declared.Screen.{Screen}
use Rattle.rules.specs.declared.Personality.{Personality}
use Rattle.rules.specs.declared.Personality.TheVariants as Personality
use Rattle.rules.specs.declared.Pending.{Pending}
use Rattle.rules.specs.declared.Pending.TheVariants as Pending
use Rattle.rules.specs.declared.Short.{Short}
use Rattle.rules.specs.declared.Short.TheVariants as Short
use Rattle.rules.specs.declared.Place.{Place}
use Rattle.rules.specs.declared.Place.TheVariants as Place
use Rattle.rules.specs.declared.Sending.{Sending}
use Rattle.rules.specs.declared.Sending.TheVariants as Sending
use Rattle.rules.specs.Cell.{pick, both, either, among, normal}
use Rattle.rules.specs.Row.{height, narrow_cells, column_of}
use Rattle.rules.specs.State.{width_of, page_length, cursor_of, text_start, is_idle, no_text, no_long}
use Rattle.rules.specs.Arguments.{is_attribute, feature_place}
use Rattle.rules.specs.Slot.{slot_ok, slot_low, slot_most, text_ok, texts_ok}

-- with each personality (document 02, A8)
unfoldable pub power_on : Personality → State
power_on m = record {
  core = record {
    screen = record { wide = false; active = 0; split = 0; cursor0 = 0; cursor1 = 0 };
    modes = record { protect = false; writeprotect = false; insert = false; autoscroll = true; locked = false; local = false };
    bells = 0;
    pending = Pending.Idle;
    personality = m;
    attribute = normal;
  };
  sending = Sending.Nothing;
  gathered = replicate 46 0;
  setup = record {
    tabs = replicate 132 false;
    attributes = replicate 4 0x30;
    features = 0x31 ∷ 0x35 ∷ 0x37 ∷ 0x39 ∷ 0x40 ∷ [];
    keys = replicate 32 no_text;
    labels = replicate 16 no_text;
    message = no_long;
    shifted = false;
    wish = false;
  };
}

-- the page at power-on: narrow, all cells 0
unfoldable pub blank : List ℕ
blank = replicate narrow_cells 0

-- unsplit: segment 0 active, the whole page for both cursors
unfoldable pub unsplit_ok : Screen → Bool
unsplit_ok x = both (eqb x.active 0) (both (ltb x.cursor0 (page_length x)) (ltb x.cursor1 (page_length x)))

-- split row 2 to 24, each cursor within its segment
unfoldable pub split_ok : Screen → Bool
split_ok x =
    both (leb 2 x.split) (both (leb x.split height) (both (leb x.active 1)
    (both (ltb x.cursor0 ((x.split - 1) * width_of x))
    (both (leb ((x.split - 1) * width_of x) x.cursor1) (ltb x.cursor1 (page_length x))))))

unfoldable pub screen_ok : Screen → Bool
screen_ok x = pick (eqb x.split 0) (unsplit_ok x) (split_ok x)

unfoldable pub attributes_ok : List ℕ → Bool
attributes_ok [] = true
attributes_ok (a ∷ l) = both (is_attribute a) (attributes_ok l)

-- each feature from its own list; `n` is the place of the list's first
unfoldable pub features_ok : ℕ → List ℕ → Bool
features_ok n [] = true
features_ok n (f ∷ l) = both (eqb (feature_place f) n) (features_ok (suc n) l)

-- no tab stop, and none beyond the w columns of the page
unfoldable pub no_stops : List Bool → Bool
no_stops [] = true
no_stops (b ∷ l) = both (not b) (no_stops l)

abbrev pub tabs_ok : ℕ → List Bool → Bool
tabs_ok w tabs = no_stops (drop w tabs)

-- a sequence that some bytes fed from power-on leave under way; g are the bytes gathered
unfoldable pub pending_ok : Pending → List ℕ → Bool
pending_ok Pending.Idle g = true
pending_ok Pending.Escape g = true
pending_ok (Pending.Awaits a) g = true
pending_ok (Pending.AddressRow r) g = ltb r 128
pending_ok (Pending.SegmentNumber n) g = ltb n 128
pending_ok (Pending.SegmentRow n r) g = both (ltb n 128) (ltb r 128)
pending_ok (Pending.DecimalRow n row) g = both (leb n 2) (ltb row (10 ^ n))
pending_ok (Pending.DecimalColumn row n column) g = both (ltb row 100) (both (leb n 3) (ltb column (10 ^ n)))
pending_ok (Pending.FieldNumber n) g = ltb n 128
pending_ok (Pending.Text x n) g = both (slot_ok x) (text_ok (slot_low x) (slot_most x) n g)
pending_ok (Pending.Spoilt x) g = slot_ok x

-- the attribute remembered (document 02, A8): in WY-50 only normal, in WY-60 any that ESC G sets, so not dim with all four others, 31
unfoldable pub remembered_ok : Personality → ℕ → Bool
remembered_ok Personality.Wy50 a = eqb a normal
remembered_ok Personality.Wy60 a = ltb a 31

-- how many bytes a short reply has
abbrev pub short_length : Short → ℕ
short_length Short.Acknowledge = 1
short_length Short.Cell = 1
short_length Short.Identity = 3
short_length Short.Cursor = 3
short_length Short.SegmentCursor = 4
short_length Short.DecimalCursor = 7

-- cell i is in the text that is sent, and not its first
abbrev pub in_text : Screen → Bool → ℕ → Bool
in_text x segment i = both (ltb (text_start x segment) i) (leb i (cursor_of x))

-- a place of a text but its first: a US stands before a row's first cell
unfoldable pub place_ok : Screen → Bool → Place → Bool
place_ok x segment (Place.Cell i) = in_text x segment i
place_ok x segment (Place.Break i) = both (eqb (column_of (width_of x) i) 0) (in_text x segment i)
place_ok x segment Place.Return = true

-- ESC ? and ESC / tell a place by two bytes, and reply nothing on a wide page (document 02, A11)
abbrev pub narrow_only : Short → Bool
narrow_only Short.Acknowledge = false
narrow_only Short.Cell = false
narrow_only Short.Identity = false
narrow_only Short.Cursor = true
narrow_only Short.SegmentCursor = true
narrow_only Short.DecimalCursor = false

abbrev pub replies_on : Screen → Short → Bool
replies_on x r = not (both (narrow_only r) x.wide)

-- a send that some page, bytes and rooms leave under way (document 02, A9): no sequence is, and it stands at any place of its reply but the first
unfoldable pub sending_ok : Screen → Pending → Sending → Bool
sending_ok x q Sending.Nothing = true
sending_ok x q (Sending.Short r n) = both (is_idle q) (both (replies_on x r) (both (leb 1 n) (ltb n (short_length r))))
sending_ok x q (Sending.Text all segment k) = both (is_idle q) (place_ok x segment k)

-- the term "possible": of the core with the bytes gathered, and of the set-up, w being the width of the page
unfoldable pub core_ok : Core → List ℕ → Bool
core_ok c g =
    both (screen_ok c.screen) (both (ltb c.bells 256)
    (both (remembered_ok c.personality c.attribute) (pending_ok c.pending g)))

-- keys of any bytes below 7Fh; labels and message of 20h to 7Eh (document 02, A1)
unfoldable pub setup_ok : ℕ → Setup → Bool
setup_ok w u =
    both (texts_ok 0 u.keys) (both (texts_ok 0x20 u.labels) (both (text_ok 0x20 46 u.message.len u.message.bytes)
    (both (attributes_ok u.attributes) (both (features_ok 0 u.features) (tabs_ok w u.tabs)))))

unfoldable pub possible : State → Bool
possible s =
    both (core_ok s.core s.gathered) (both (sending_ok s.core.screen s.core.pending s.sending)
    (setup_ok (width_of s.core.screen) s.setup))

-- a page of the state's own length, and a possible state
unfoldable pub good : List ℕ → State → Bool
good p s = both (eqb (length p) (page_length s.core.screen)) (possible s)
