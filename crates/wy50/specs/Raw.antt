-- A state as C holds it, in numbers: the numbers of a state, and the state that numbers name.
use Rattle.std.specs.Prelude.{Bool, true, false, List, [], ◌∷◌, map, ℕ, zero, suc, ltb, eqb}
use Rattle.rules.specs.declared.Argument.{Argument}
use Rattle.rules.specs.declared.Slot.{Slot}
use Rattle.rules.specs.declared.Text.{Text}
use Rattle.rules.specs.declared.Modes.{Modes}
use Rattle.rules.specs.declared.Pending.{Pending}
use Rattle.rules.specs.declared.Short.{Short}
use Rattle.rules.specs.declared.Place.{Place}
use Rattle.rules.specs.declared.Sending.{Sending}
use Rattle.rules.specs.declared.State.{State}
use Rattle.rules.specs.declared.Personality.{Personality}
use Rattle.rules.specs.Cell.{pick, both, either}
use Rattle.rules.specs.Send.{short_command, text_command}
use Rattle.wy50.specs.declared.raw.RawKey.{RawKey}
use Rattle.wy50.specs.declared.raw.RawMessage.{RawMessage}
use Rattle.wy50.specs.declared.raw.RawModes.{RawModes}
use Rattle.wy50.specs.declared.raw.RawSequence.{RawSequence}
use Rattle.wy50.specs.declared.raw.RawSending.{RawSending}
use Rattle.wy50.specs.declared.raw.RawState.{RawState}

unfoldable pub all_below : ℕ → List ℕ → Bool
all_below n [] = true
all_below n (x ∷ l) = both (ltb x n) (all_below n l)

-- a mode, a tab stop or a width as a number, and back
abbrev pub flag : Bool → ℕ
flag b = pick b 1 0

abbrev pub is_on : ℕ → Bool
is_on v = eqb v 1

-- a personality as a number, and back
abbrev pub personality_number : Personality → ℕ
personality_number Personality.Wy50 = 50
personality_number Personality.Wy60 = 60

abbrev pub is_personality : ℕ → Bool
is_personality v = either (eqb v 50) (eqb v 60)

abbrev pub personality_at : ℕ → Personality
personality_at v = pick (eqb v 60) Personality.Wy60 Personality.Wy50

abbrev sequence : ℕ → ℕ → ℕ → ℕ → RawSequence
sequence k x y z = record { kind = k; first = x; second = y; third = z }

-- the kind of an awaited argument
abbrev pub kind_of : Argument → ℕ
kind_of Argument.Address = 2
kind_of Argument.Segment = 4
kind_of Argument.Split = 9
kind_of Argument.SplitRow = 10
kind_of Argument.Attribute = 11
kind_of Argument.Graphic = 12
kind_of Argument.FillAttribute = 13
kind_of Argument.FillCode = 14
kind_of Argument.Feature = 15
kind_of Argument.FieldAttribute = 16
kind_of Argument.Slot = 18

abbrev pub text_sequence : Slot → ℕ → RawSequence
text_sequence (Slot.Key v) n = sequence 19 v n 0
text_sequence (Slot.Label v) n = sequence 21 v n 0
text_sequence Slot.Message n = sequence 23 0 n 0

abbrev pub spoilt_sequence : Slot → RawSequence
spoilt_sequence (Slot.Key v) = sequence 20 v 0 0
spoilt_sequence (Slot.Label v) = sequence 22 v 0 0
spoilt_sequence Slot.Message = sequence 24 0 0 0

-- each sequence's kind, and its numbers in their order; the others are 0
abbrev pub sequence_of : Pending → RawSequence
sequence_of Pending.Idle = sequence 0 0 0 0
sequence_of Pending.Escape = sequence 1 0 0 0
sequence_of (Pending.Awaits a) = sequence (kind_of a) 0 0 0
sequence_of (Pending.AddressRow r) = sequence 3 r 0 0
sequence_of (Pending.SegmentNumber n) = sequence 5 n 0 0
sequence_of (Pending.SegmentRow n r) = sequence 6 n r 0
sequence_of (Pending.DecimalRow n row) = sequence 7 n row 0
sequence_of (Pending.DecimalColumn row n column) = sequence 8 row n column
sequence_of (Pending.FieldNumber n) = sequence 17 n 0 0
sequence_of (Pending.Text x n) = text_sequence x n
sequence_of (Pending.Spoilt x) = spoilt_sequence x

-- how many bytes of a text are gathered, by the sequence: none where no text is under way
abbrev pub gathered_in : RawSequence → ℕ
gathered_in q = pick (either (eqb q.kind 19) (either (eqb q.kind 21) (eqb q.kind 23))) q.second 0

-- zeros in place of the first m bytes
unfoldable pub blanked : ℕ → List ℕ → List ℕ
blanked zero g = g
blanked (suc m) [] = []
blanked (suc m) (b ∷ g) = 0 ∷ blanked m g

-- the first n bytes of g, and behind them those of h
unfoldable pub laid_over : ℕ → List ℕ → List ℕ → List ℕ
laid_over zero g h = h
laid_over (suc n) [] h = []
laid_over (suc n) (b ∷ g) [] = b ∷ laid_over n g []
laid_over (suc n) (b ∷ g) (c ∷ h) = b ∷ laid_over n g h

-- the sequence of each kind but 0, with these numbers
abbrev pub kinds : ℕ → ℕ → ℕ → List (ℕ × Pending)
kinds x y z =
    (1, Pending.Escape)
    ∷ (2, Pending.Awaits Argument.Address)
    ∷ (3, Pending.AddressRow x)
    ∷ (4, Pending.Awaits Argument.Segment)
    ∷ (5, Pending.SegmentNumber x)
    ∷ (6, Pending.SegmentRow x y)
    ∷ (7, Pending.DecimalRow x y)
    ∷ (8, Pending.DecimalColumn x y z)
    ∷ (9, Pending.Awaits Argument.Split)
    ∷ (10, Pending.Awaits Argument.SplitRow)
    ∷ (11, Pending.Awaits Argument.Attribute)
    ∷ (12, Pending.Awaits Argument.Graphic)
    ∷ (13, Pending.Awaits Argument.FillAttribute)
    ∷ (14, Pending.Awaits Argument.FillCode)
    ∷ (15, Pending.Awaits Argument.Feature)
    ∷ (16, Pending.Awaits Argument.FieldAttribute)
    ∷ (17, Pending.FieldNumber x)
    ∷ (18, Pending.Awaits Argument.Slot)
    ∷ (19, Pending.Text (Slot.Key x) y)
    ∷ (20, Pending.Spoilt (Slot.Key x))
    ∷ (21, Pending.Text (Slot.Label x) y)
    ∷ (22, Pending.Spoilt (Slot.Label x))
    ∷ (23, Pending.Text Slot.Message y)
    ∷ (24, Pending.Spoilt Slot.Message)
    ∷ []

-- what stands at a number in a list; x where the number is not there
unfoldable pub find : {A : Type 0} → A → List (ℕ × A) → ℕ → A
find x [] k = x
find x (r ∷ t) k = let q = find x t k in pick (eqb k r.0) r.1 q

abbrev pub pending_at : RawSequence → ℕ → Pending
pending_at q k = find Pending.Idle (kinds q.first q.second q.third) k

abbrev pub pending_of : RawSequence → Pending
pending_of q = pending_at q q.kind

abbrev pub same_sequence : RawSequence → RawSequence → Bool
same_sequence a b = both (eqb a.kind b.kind) (both (eqb a.first b.first) (both (eqb a.second b.second) (eqb a.third b.third)))

-- the numbers are those of a sequence: it gives them back. Not so an unknown kind, or a number that the kind does not have and that is not 0
unfoldable pub is_sequence : RawSequence → Bool
is_sequence q = same_sequence (sequence_of (pending_of q)) q

abbrev send : ℕ → ℕ → ℕ → RawSending
send c k n = record { command = c; kind = k; place = n }

abbrev pub text_sending : ℕ → Place → RawSending
text_sending c (Place.Cell i) = send c 1 i
text_sending c (Place.Break i) = send c 2 i
text_sending c Place.Return = send c 3 0

abbrev pub raw_sending : Sending → RawSending
raw_sending Sending.Nothing = send 0 0 0
raw_sending (Sending.Short r n) = send (short_command r) 0 n
raw_sending (Sending.Text all segment k) = text_sending (text_command all segment) k

-- how many bytes of a short reply went, where a byte holds it; a larger number is not given back
abbrev pub small : ℕ → ℕ
small n = pick (ltb n 256) n 0

abbrev pub place_at : ℕ → ℕ → Place
place_at k n = pick (eqb k 1) (Place.Cell n) (pick (eqb k 2) (Place.Break n) Place.Return)

-- the send of each command, at this place
abbrev pub commands : ℕ → Place → List (ℕ × Sending)
commands n k =
    (0x05, Sending.Short Short.Acknowledge n)
    ∷ (0x20, Sending.Short Short.Identity n)
    ∷ (0x2f, Sending.Short Short.SegmentCursor n)
    ∷ (0x34, Sending.Text false false k)
    ∷ (0x35, Sending.Text false true k)
    ∷ (0x36, Sending.Text true false k)
    ∷ (0x37, Sending.Text true true k)
    ∷ (0x3f, Sending.Short Short.Cursor n)
    ∷ (0x4d, Sending.Short Short.Cell n)
    ∷ (0x62, Sending.Short Short.DecimalCursor n)
    ∷ []

abbrev pub sending_at : RawSending → ℕ → Sending
sending_at y c = find Sending.Nothing (commands (small y.place) (place_at y.kind y.place)) c

abbrev pub sending_of : RawSending → Sending
sending_of y = sending_at y y.command

abbrev pub same_sending : RawSending → RawSending → Bool
same_sending a b = both (eqb a.command b.command) (both (eqb a.kind b.kind) (eqb a.place b.place))

-- the numbers are those of a send: it gives them back. Not so an unknown command or kind, a kind that is not the command's, a number that the kind
-- does not have and that is not 0, and more bytes of a short reply than a byte counts
unfoldable pub is_sending : RawSending → Bool
is_sending y = same_sending (raw_sending (sending_of y)) y

abbrev pub raw_modes : Modes → RawModes
raw_modes m = record {
  protect = flag m.protect;
  writeprotect = flag m.writeprotect;
  insert = flag m.insert;
  autoscroll = flag m.autoscroll;
  locked = flag m.locked;
  local = flag m.local;
}

abbrev pub modes_of : RawModes → Modes
modes_of m = record {
  protect = is_on m.protect;
  writeprotect = is_on m.writeprotect;
  insert = is_on m.insert;
  autoscroll = is_on m.autoscroll;
  locked = is_on m.locked;
  local = is_on m.local;
}

-- each mode is 0 or 1
abbrev pub are_flags : RawModes → Bool
are_flags m =
    both (both (ltb m.protect 2) (both (ltb m.writeprotect 2) (ltb m.insert 2)))
    (both (ltb m.autoscroll 2) (both (ltb m.locked 2) (ltb m.local 2)))

abbrev pub raw_key : Text 8 → RawKey
raw_key k = record { len = k.len; bytes = k.bytes }

abbrev pub key_of : RawKey → Text 8
key_of k = record { len = k.len; bytes = k.bytes }

abbrev pub raw_message : Text 46 → RawMessage
raw_message m = record { len = m.len; bytes = m.bytes }

abbrev pub message_of : RawMessage → Text 46
message_of m = record { len = m.len; bytes = m.bytes }

-- the numbers of a state, with these bytes for those gathered
unfoldable pub numbers : List ℕ → State → RawState
numbers g s = record {
  screen = record {
    wide = flag s.core.screen.wide;
    active = s.core.screen.active;
    split = s.core.screen.split;
    cursor0 = s.core.screen.cursor0;
    cursor1 = s.core.screen.cursor1;
  };
  modes = raw_modes s.core.modes;
  bells = s.core.bells;
  personality = personality_number s.core.personality;
  remembered = s.core.attribute;
  sequence = sequence_of s.core.pending;
  sending = raw_sending s.sending;
  gathered = g;
  tabs = map flag s.setup.tabs;
  attributes = s.setup.attributes;
  features = s.setup.features;
  keys = map raw_key s.setup.keys;
  labels = map raw_key s.setup.labels;
  message = raw_message s.setup.message;
  shifted = flag s.setup.shifted;
  wish = flag s.setup.wish;
}

-- the state that numbers name
unfoldable pub unpacked : RawState → State
unpacked x = record {
  core = record {
    screen = record {
      wide = is_on x.screen.wide;
      active = x.screen.active;
      split = x.screen.split;
      cursor0 = x.screen.cursor0;
      cursor1 = x.screen.cursor1;
    };
    modes = modes_of x.modes;
    bells = x.bells;
    pending = pending_of x.sequence;
    personality = personality_at x.personality;
    attribute = x.remembered;
  };
  sending = sending_of x.sending;
  gathered = x.gathered;
  setup = record {
    tabs = map is_on x.tabs;
    attributes = x.attributes;
    features = x.features;
    keys = map key_of x.keys;
    labels = map key_of x.labels;
    message = message_of x.message;
    shifted = is_on x.shifted;
    wish = is_on x.wish;
  };
}

-- the bytes gathered, as they go back to C, which handed in the numbers x: those that the sequence counts, a 0 for each that it counts no longer, and
-- behind them what C has there. So what is left alone comes back as it came, and from power-on on two states that mean the same are the same numbers
abbrev pub gathered_back : RawState → State → List ℕ
gathered_back x s = laid_over (gathered_in (sequence_of s.core.pending)) s.gathered (blanked (gathered_in x.sequence) x.gathered)

-- the numbers of a state that a call leaves, which was handed x
abbrev pub packed : RawState → State → RawState
packed x s = numbers (gathered_back x s) s

-- whether numbers name a state: modes, tab stops, the shifted line, the wish and the width 0 or 1, bells below 256, a sequence's own numbers, a
-- send's own numbers, a personality's number
unfoldable pub named : RawState → Bool
named x =
    both (are_flags x.modes) (both (ltb x.bells 256) (both (is_sequence x.sequence) (both (is_sending x.sending)
    (both (all_below 2 x.tabs) (both (both (ltb x.shifted 2) (both (ltb x.wish 2) (ltb x.screen.wide 2)))
    (is_personality x.personality))))))
