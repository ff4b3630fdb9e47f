-- The parts of a state: the numbers of the answers, the active segment and its cursor, keys, and setters (there is no record update).
use Rattle.std.specs.Prelude.{Bool, true, false, List, [], ◌∷◌, ◌++◌, ℕ, zero, suc, ◌+◌}
use Rattle.std.specs.Prelude.{◌-◌, ◌*◌, ◌<◌, ◌≤◌, eqb, ltb, leb, length, take, set, replicate}
use Rattle.rules.specs.declared.Answer.{Answer}
use Rattle.rules.specs.declared.Answer.TheVariants as Answer
use Rattle.rules.specs.declared.Screen.{Screen}
use Rattle.rules.specs.declared.Modes.{Modes}
use Rattle.rules.specs.declared.Mode.{Mode}
use Rattle.rules.specs.declared.Mode.TheVariants as Mode
use Rattle.rules.specs.declared.Text.{Text}
use Rattle.rules.specs.declared.Slot.{Slot}
use Rattle.rules.specs.declared.Slot.TheVariants as Slot
use Rattle.rules.specs.declared.Change.{Change}
use Rattle.rules.specs.declared.Change.TheVariants as Change
use Rattle.rules.specs.declared.Setup.{Setup}
use Rattle.rules.specs.declared.SetupChange.{SetupChange}
use Rattle.rules.specs.declared.SetupChange.TheVariants as SetupChange
use Rattle.rules.specs.declared.Core.{Core}
use Rattle.rules.specs.declared.State.{State}
use Rattle.rules.specs.declared.Pending.{Pending}
use Rattle.rules.specs.declared.Pending.TheVariants as Pending
use Rattle.rules.specs.declared.Sending.{Sending}
use Rattle.rules.specs.declared.Sending.TheVariants as Sending
use Rattle.rules.specs.Cell.{pick, both, either}
use Rattle.rules.specs.Row.{columns, height, row_of, column_of, row_start, Placed}

-- document 01, "Numbers that come back"; 5 is unused (A4)
abbrev pub number : Answer → ℕ
number Answer.Done = 0
number Answer.HighByte = 1
number Answer.Unknown = 2
number Answer.BadArgument = 3
number Answer.Barred = 4
number Answer.NoRoom = 6
number Answer.BadCall = 7
number Answer.Locked = 8

-- the width of the page, and how many cells it has
abbrev pub width_of : Screen → ℕ
width_of x = columns x.wide

abbrev pub page_length : Screen → ℕ
page_length x = height * width_of x

-- the rows of the active segment, from 0: its first, and the one past its last. Segment 0 is rows 1 to S-1, segment 1 rows S to 24;
-- unsplit, segment 0 is all
unfoldable pub segment_top : Screen → ℕ
segment_top x = pick (eqb x.active 0) 0 (x.split - 1)

unfoldable pub segment_bottom : Screen → ℕ
segment_bottom x = pick (eqb x.split 0) height (pick (eqb x.active 0) (x.split - 1) height)

-- its first cell, home, and the one past its last
abbrev pub segment_start : Screen → ℕ
segment_start x = segment_top x * width_of x

abbrev pub segment_end : Screen → ℕ
segment_end x = segment_bottom x * width_of x

-- the active cursor
unfoldable pub cursor_of : Screen → ℕ
cursor_of x = pick (eqb x.active 0) x.cursor0 x.cursor1

unfoldable pub with_cursor : Screen → ℕ → Screen
with_cursor x n = record {
  wide = x.wide;
  active = x.active;
  split = x.split;
  cursor0 = pick (eqb x.active 0) n x.cursor0;
  cursor1 = pick (eqb x.active 0) x.cursor1 n;
}

-- the cursor's row from the segment's top, and its column, from 0
abbrev pub cursor_row : Screen → ℕ
cursor_row x = row_of (width_of x) (cursor_of x) - segment_top x

abbrev pub cursor_column : Screen → ℕ
cursor_column x = column_of (width_of x) (cursor_of x)

-- the first cell of a text that is sent: the segment's, or that of the cursor's row
abbrev pub text_start : Screen → Bool → ℕ
text_start x segment = pick segment (segment_start x) (row_start (width_of x) (cursor_of x))

-- another segment is active
abbrev pub activated : Screen → ℕ → Screen
activated x n = record { wide = x.wide; active = n; split = x.split; cursor0 = x.cursor0; cursor1 = x.cursor1 }

-- what commands need of a possible screen: the active segment has a row, and the cursor is in it
pub record Inside (x : Screen) : Type 0 where
  pub rows : segment_top x < segment_bottom x
  pub most : segment_bottom x ≤ height
  pub from : segment_start x ≤ cursor_of x
  pub below : cursor_of x < segment_end x
  pub placed : Placed (width_of x) (segment_top x) (segment_bottom x) (cursor_of x)

-- a text's bytes, and the text that holds some bytes, with zeros behind them
abbrev pub short_bytes : Text 8 → List ℕ
short_bytes t = take t.len t.bytes

abbrev pub padded : ℕ → List ℕ → List ℕ
padded most l = take most (l ++ replicate most 0)

abbrev pub text_of : (most : ℕ) → List ℕ → Text most
text_of most l = record { len = length l; bytes = padded most l }

abbrev pub empty : (most : ℕ) → Text most
empty most = record { len = 0; bytes = replicate most 0 }

abbrev pub short_text : List ℕ → Text 8
short_text = text_of 8

abbrev pub long_text : List ℕ → Text 46
long_text = text_of 46

abbrev pub no_text : Text 8
no_text = empty 8

abbrev pub no_long : Text 46
no_long = empty 46

-- keys 40h to 4Fh and 60h to 6Fh are the places 0 to 15 and 16 to 31
abbrev pub key_place : ℕ → ℕ
key_place v = pick (ltb v 0x60) (v - 0x40) (v - 0x50)

-- labels 30h to 37h and 50h to 57h are the places 0 to 7 and 8 to 15
abbrev pub label_place : ℕ → ℕ
label_place v = pick (ltb v 0x50) (v - 0x30) (v - 0x48)

abbrev pub with_screen : Core → Screen → Core
with_screen c x = record {
  screen = x;
  modes = c.modes;
  bells = c.bells;
  pending = c.pending;
  personality = c.personality;
  attribute = c.attribute;
}

abbrev pub with_modes : Core → Modes → Core
with_modes c m = record {
  screen = c.screen;
  modes = m;
  bells = c.bells;
  pending = c.pending;
  personality = c.personality;
  attribute = c.attribute;
}

abbrev pub with_bells : Core → ℕ → Core
with_bells c n = record {
  screen = c.screen;
  modes = c.modes;
  bells = n;
  pending = c.pending;
  personality = c.personality;
  attribute = c.attribute;
}

abbrev pub with_attribute : Core → ℕ → Core
with_attribute c a = record {
  screen = c.screen;
  modes = c.modes;
  bells = c.bells;
  pending = c.pending;
  personality = c.personality;
  attribute = a;
}

-- another sequence is under way
abbrev pub awaiting : Core → Pending → Core
awaiting c q = record { screen = c.screen; modes = c.modes; bells = c.bells; pending = q; personality = c.personality; attribute = c.attribute }

-- the sequence is cleared
abbrev pub idle : Core → Core
idle c = awaiting c Pending.Idle

-- no sequence is under way
abbrev pub is_idle : Pending → Bool
is_idle Pending.Idle = true
is_idle Pending.Escape = false
is_idle (Pending.Awaits a) = false
is_idle (Pending.AddressRow r) = false
is_idle (Pending.SegmentNumber n) = false
is_idle (Pending.SegmentRow n r) = false
is_idle (Pending.DecimalRow n row) = false
is_idle (Pending.DecimalColumn row n column) = false
is_idle (Pending.FieldNumber n) = false
is_idle (Pending.Text x n) = false
is_idle (Pending.Spoilt x) = false

-- there is something to send
abbrev pub sends : Sending → Bool
sends Sending.Nothing = false
sends (Sending.Short r n) = true
sends (Sending.Text all segment k) = true

-- another send is under way
abbrev pub with_sending : State → Sending → State
with_sending s x = record { core = s.core; sending = x; gathered = s.gathered; setup = s.setup }

abbrev pub with_protect : Modes → Bool → Modes
with_protect m b = record {
  protect = b;
  writeprotect = m.writeprotect;
  insert = m.insert;
  autoscroll = m.autoscroll;
  locked = m.locked;
  local = m.local;
}

unfoldable pub with_mode : Modes → Mode → Bool → Modes
with_mode m Mode.WriteProtect b = record {
  protect = m.protect;
  writeprotect = b;
  insert = m.insert;
  autoscroll = m.autoscroll;
  locked = m.locked;
  local = m.local;
}
with_mode m Mode.Insert b = record {
  protect = m.protect;
  writeprotect = m.writeprotect;
  insert = b;
  autoscroll = m.autoscroll;
  locked = m.locked;
  local = m.local;
}
with_mode m Mode.Autoscroll b = record {
  protect = m.protect;
  writeprotect = m.writeprotect;
  insert = m.insert;
  autoscroll = b;
  locked = m.locked;
  local = m.local;
}
with_mode m Mode.Lock b = record {
  protect = m.protect;
  writeprotect = m.writeprotect;
  insert = m.insert;
  autoscroll = m.autoscroll;
  locked = b;
  local = m.local;
}
with_mode m Mode.LocalEdit b = record {
  protect = m.protect;
  writeprotect = m.writeprotect;
  insert = m.insert;
  autoscroll = m.autoscroll;
  locked = m.locked;
  local = b;
}

abbrev pub with_tabs : Setup → List Bool → Setup
with_tabs u x = record {
  tabs = x;
  attributes = u.attributes;
  features = u.features;
  keys = u.keys;
  labels = u.labels;
  message = u.message;
  shifted = u.shifted;
  wish = u.wish;
}

abbrev pub with_attributes : Setup → List ℕ → Setup
with_attributes u x = record {
  tabs = u.tabs;
  attributes = x;
  features = u.features;
  keys = u.keys;
  labels = u.labels;
  message = u.message;
  shifted = u.shifted;
  wish = u.wish;
}

abbrev pub with_features : Setup → List ℕ → Setup
with_features u x = record {
  tabs = u.tabs;
  attributes = u.attributes;
  features = x;
  keys = u.keys;
  labels = u.labels;
  message = u.message;
  shifted = u.shifted;
  wish = u.wish;
}

abbrev pub with_keys : Setup → List (Text 8) → Setup
with_keys u x = record {
  tabs = u.tabs;
  attributes = u.attributes;
  features = u.features;
  keys = x;
  labels = u.labels;
  message = u.message;
  shifted = u.shifted;
  wish = u.wish;
}

abbrev pub with_labels : Setup → List (Text 8) → Bool → Setup
with_labels u l s = record {
  tabs = u.tabs;
  attributes = u.attributes;
  features = u.features;
  keys = u.keys;
  labels = l;
  message = u.message;
  shifted = s;
  wish = u.wish;
}

abbrev pub with_message : Setup → Text 46 → Setup
with_message u x = record {
  tabs = u.tabs;
  attributes = u.attributes;
  features = u.features;
  keys = u.keys;
  labels = u.labels;
  message = x;
  shifted = u.shifted;
  wish = u.wish;
}

abbrev pub with_shifted : Setup → Bool → Setup
with_shifted u x = record {
  tabs = u.tabs;
  attributes = u.attributes;
  features = u.features;
  keys = u.keys;
  labels = u.labels;
  message = u.message;
  shifted = x;
  wish = u.wish;
}

abbrev pub with_wish : Setup → Bool → Setup
with_wish u x = record {
  tabs = u.tabs;
  attributes = u.attributes;
  features = u.features;
  keys = u.keys;
  labels = u.labels;
  message = u.message;
  shifted = u.shifted;
  wish = x;
}

-- the set-up after a command's change
unfoldable pub changed : SetupChange → Setup → Setup
changed SetupChange.Nothing u = u
changed (SetupChange.Tab c b) u = with_tabs u (set u.tabs c b)
changed SetupChange.ClearTabs u = with_tabs u (replicate 132 false)
changed (SetupChange.Attribute n a) u = with_attributes u (set u.attributes n a)
changed (SetupChange.Feature n f) u = with_features u (set u.features n f)
changed SetupChange.HideLine u = with_shifted u false
changed (SetupChange.Wish b) u = with_wish u b

-- a slot takes a text. A label of 50h to 57h that is set, not cleared, turns the shifted line on
unfoldable pub stored : Slot → List ℕ → Setup → Setup
stored (Slot.Key v) l u = with_keys u (set u.keys (key_place v) (short_text l))
stored (Slot.Label v) l u =
    with_labels u (set u.labels (label_place v) (short_text l)) (either (both (leb 0x50 v) (ltb 0 (length l))) u.shifted)
stored Slot.Message l u = with_message u (long_text l)

-- nothing changes beside the core
abbrev pub unchanged : Change
unchanged = Change.Set SetupChange.Nothing

-- the send under way, the gathered bytes g, and the set-up, after a byte's change
unfoldable pub sending_after : Change → Sending → Sending
sending_after (Change.Gather n b) y = y
sending_after (Change.Take x n) y = y
sending_after (Change.Set x) y = y
sending_after (Change.Send x) y = x

unfoldable pub gathered_after : Change → List ℕ → List ℕ
gathered_after (Change.Gather n b) g = set g n b
gathered_after (Change.Take x n) g = g
gathered_after (Change.Set x) g = g
gathered_after (Change.Send x) g = g

unfoldable pub setup_after : Change → List ℕ → Setup → Setup
setup_after (Change.Gather n b) g u = u
setup_after (Change.Take x n) g u = stored x (take n g) u
setup_after (Change.Set x) g u = changed x u
setup_after (Change.Send x) g u = u
