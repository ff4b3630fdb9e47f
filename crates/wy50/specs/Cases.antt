-- Worked numbers: states, sequences and sends as C holds them, and numbers that name no state.
use Rattle.std.specs.Prelude.{◌≡◌, Bool, true, false, List, [], ◌∷◌, ◌++◌, map, ℕ, Ok, Err, replicate}
use Rattle.rules.specs.declared.Argument.TheVariants as Argument
use Rattle.rules.specs.declared.Slot.TheVariants as Slot
use Rattle.rules.specs.declared.Modes.{Modes}
use Rattle.rules.specs.declared.Pending.{Pending}
use Rattle.rules.specs.declared.Short.TheVariants as Short
use Rattle.rules.specs.declared.Place.TheVariants as Place
use Rattle.rules.specs.declared.Sending.{Sending}
use Rattle.rules.specs.declared.State.{State}
use Rattle.rules.specs.declared.Personality.TheVariants as Personality
use Rattle.rules.specs.State.{short_text, long_text, no_text}
use Rattle.saved.specs.declared.Refusal.TheVariants as Refusal
use Rattle.wy50.specs.declared.raw.RawKey.{RawKey}
use Rattle.wy50.specs.declared.raw.RawModes.{RawModes}
use Rattle.wy50.specs.declared.raw.RawSequence.{RawSequence}
use Rattle.wy50.specs.declared.raw.RawSending.{RawSending}
use Rattle.wy50.specs.declared.raw.RawState.{RawState}
use Rattle.wy50.specs.Raw.{sequence_of, pending_of, raw_sending, sending_of, raw_modes, modes_of, packed, unpacked, named}
use Rattle.saved.specs.Calls.{save_number, saved_as, restore_number}

-- ---- a state of which each part is told from the others, a text and a send under way; `gathered` are its bytes

abbrev pub state_with : List ℕ → State
state_with gathered = record {
  core = record {
    screen = record { wide = true; active = 0; split = 13; cursor0 = 101; cursor1 = 2002 };
    modes = record { protect = true; writeprotect = false; insert = true; autoscroll = false; locked = true; local = false };
    bells = 7;
    pending = Pending.Text (Slot.Key 0x41) 3;
    personality = Personality.Wy60;
    attribute = 9;
  };
  sending = Sending.Text false true (Place.Break 264);
  gathered = gathered;
  setup = record {
    tabs = true ∷ false ∷ true ∷ replicate 128 false ++ true ∷ [];
    attributes = 0x30 ∷ 0x31 ∷ 0x34 ∷ 0x38 ∷ [];
    features = 0x30 ∷ 0x32 ∷ 0x36 ∷ 0x38 ∷ 0x3c ∷ [];
    keys = short_text (0x0d ∷ 0x61 ∷ []) ∷ replicate 31 no_text;
    labels = replicate 15 no_text ++ short_text (0x62 ∷ []) ∷ [];
    message = long_text (0x68 ∷ 0x69 ∷ []);
    shifted = true;
    wish = false;
  };
}

abbrev pub sequence : ℕ → ℕ → ℕ → ℕ → RawSequence
sequence k x y z = record { kind = k; first = x; second = y; third = z }

abbrev pub send : ℕ → ℕ → ℕ → RawSending
send c k n = record { command = c; kind = k; place = n }

abbrev pub no_key : RawKey
no_key = record { len = 0; bytes = replicate 8 0 }

-- its numbers, but for the bytes gathered and those that decide whether they name a state
abbrev pub gathering : List ℕ → ℕ → ℕ → ℕ → ℕ → RawSequence → RawSending → ℕ → ℕ → ℕ → RawState
gathering g wide writes bells personality q y tab shifted wish = record {
  screen = record { wide = wide; active = 0; split = 13; cursor0 = 101; cursor1 = 2002 };
  modes = record { protect = 1; writeprotect = writes; insert = 1; autoscroll = 0; locked = 1; local = 0 };
  bells = bells;
  personality = personality;
  remembered = 9;
  sequence = q;
  sending = y;
  gathered = g;
  tabs = 1 ∷ tab ∷ 1 ∷ replicate 128 0 ++ 1 ∷ [];
  attributes = 0x30 ∷ 0x31 ∷ 0x34 ∷ 0x38 ∷ [];
  features = 0x30 ∷ 0x32 ∷ 0x36 ∷ 0x38 ∷ 0x3c ∷ [];
  keys = record { len = 2; bytes = 0x0d ∷ 0x61 ∷ replicate 6 0 } ∷ replicate 31 no_key;
  labels = replicate 15 no_key ++ record { len = 1; bytes = 0x62 ∷ replicate 7 0 } ∷ [];
  message = record { len = 2; bytes = 0x68 ∷ 0x69 ∷ replicate 44 0 };
  shifted = shifted;
  wish = wish;
}

abbrev pub numbers_with : ℕ → ℕ → ℕ → ℕ → RawSequence → RawSending → ℕ → ℕ → ℕ → RawState
numbers_with = gathering (0x61 ∷ 0x62 ∷ 0x63 ∷ replicate 43 0)

abbrev pub numbers : RawState
numbers = numbers_with 1 0 7 60 (sequence 19 0x41 3 0) (send 0x35 2 264) 0 1 0

-- the same state as C handed it in: no text under way and zeros, or one of five bytes and rubbish
abbrev pub zeros_in : RawState
zeros_in = gathering (replicate 46 0) 1 0 7 60 (sequence 0 0 0 0) (send 0 0 0) 0 1 0

abbrev pub rubbish_in : RawState
rubbish_in = gathering (replicate 46 9) 1 0 7 60 (sequence 19 0x41 5 0) (send 0 0 0) 0 1 0

pub record States : Type 0 where
  -- of the bytes gathered C gets those of the text under way, a 0 for each that is counted no longer, and behind them what it handed in
  pub there : packed zeros_in (state_with (0x61 ∷ 0x62 ∷ 0x63 ∷ 0x64 ∷ replicate 42 0x65)) ≡ numbers
  pub rubbish : packed rubbish_in (state_with (0x61 ∷ 0x62 ∷ 0x63 ∷ 0x64 ∷ replicate 42 0x65))
      ≡ gathering (0x61 ∷ 0x62 ∷ 0x63 ∷ 0 ∷ 0 ∷ replicate 41 9) 1 0 7 60 (sequence 19 0x41 3 0) (send 0x35 2 264) 0 1 0
  pub back : unpacked numbers ≡ state_with (0x61 ∷ 0x62 ∷ 0x63 ∷ replicate 43 0)
  pub named : named numbers ≡ true

-- ---- modes, sequences and sends

abbrev pub modes : Bool → Bool → Bool → Bool → Bool → Bool → Modes
modes p m i a k l = record { protect = p; writeprotect = m; insert = i; autoscroll = a; locked = k; local = l }

abbrev pub flags : ℕ → ℕ → ℕ → ℕ → ℕ → ℕ → RawModes
flags p m i a k l = record { protect = p; writeprotect = m; insert = i; autoscroll = a; locked = k; local = l }

-- each mode alone
abbrev pub each_mode : List Modes
each_mode =
    modes true false false false false false ∷ modes false true false false false false ∷ modes false false true false false false
    ∷ modes false false false true false false ∷ modes false false false false true false ∷ modes false false false false false true ∷ []

abbrev pub each_flag : List RawModes
each_flag = flags 1 0 0 0 0 0 ∷ flags 0 1 0 0 0 0 ∷ flags 0 0 1 0 0 0 ∷ flags 0 0 0 1 0 0 ∷ flags 0 0 0 0 1 0 ∷ flags 0 0 0 0 0 1 ∷ []

-- the sequences by their kinds, 0 to 24
abbrev pub each_pending : List Pending
each_pending =
    Pending.Idle
    ∷ Pending.Escape
    ∷ Pending.Awaits Argument.Address
    ∷ Pending.AddressRow 33
    ∷ Pending.Awaits Argument.Segment
    ∷ Pending.SegmentNumber 49
    ∷ Pending.SegmentRow 48 34
    ∷ Pending.DecimalRow 2 24
    ∷ Pending.DecimalColumn 24 3 132
    ∷ Pending.Awaits Argument.Split
    ∷ Pending.Awaits Argument.SplitRow
    ∷ Pending.Awaits Argument.Attribute
    ∷ Pending.Awaits Argument.Graphic
    ∷ Pending.Awaits Argument.FillAttribute
    ∷ Pending.Awaits Argument.FillCode
    ∷ Pending.Awaits Argument.Feature
    ∷ Pending.Awaits Argument.FieldAttribute
    ∷ Pending.FieldNumber 51
    ∷ Pending.Awaits Argument.Slot
    ∷ Pending.Text (Slot.Key 64) 8
    ∷ Pending.Spoilt (Slot.Key 96)
    ∷ Pending.Text (Slot.Label 48) 7
    ∷ Pending.Spoilt (Slot.Label 80)
    ∷ Pending.Text Slot.Message 46
    ∷ Pending.Spoilt Slot.Message
    ∷ []

abbrev pub each_sequence : List RawSequence
each_sequence =
    sequence 0 0 0 0 ∷ sequence 1 0 0 0 ∷ sequence 2 0 0 0 ∷ sequence 3 33 0 0 ∷ sequence 4 0 0 0 ∷ sequence 5 49 0 0 ∷ sequence 6 48 34 0
    ∷ sequence 7 2 24 0 ∷ sequence 8 24 3 132 ∷ sequence 9 0 0 0 ∷ sequence 10 0 0 0 ∷ sequence 11 0 0 0 ∷ sequence 12 0 0 0 ∷ sequence 13 0 0 0
    ∷ sequence 14 0 0 0 ∷ sequence 15 0 0 0 ∷ sequence 16 0 0 0 ∷ sequence 17 51 0 0 ∷ sequence 18 0 0 0 ∷ sequence 19 64 8 0 ∷ sequence 20 96 0 0
    ∷ sequence 21 48 7 0 ∷ sequence 22 80 0 0 ∷ sequence 23 0 46 0 ∷ sequence 24 0 0 0 ∷ []

-- none, the short replies, and ESC 4 to ESC 7 at a cell, before a row and at the end
abbrev pub each_sending : List Sending
each_sending =
    Sending.Nothing
    ∷ Sending.Short Short.Acknowledge 0
    ∷ Sending.Short Short.Identity 1
    ∷ Sending.Short Short.SegmentCursor 3
    ∷ Sending.Text false false (Place.Cell 5)
    ∷ Sending.Text false true (Place.Break 80)
    ∷ Sending.Text true false Place.Return
    ∷ Sending.Text true true (Place.Cell 3167)
    ∷ Sending.Short Short.Cursor 2
    ∷ Sending.Short Short.Cell 255
    ∷ Sending.Short Short.DecimalCursor 6
    ∷ []

abbrev pub each_send : List RawSending
each_send =
    send 0 0 0 ∷ send 0x05 0 0 ∷ send 0x20 0 1 ∷ send 0x2f 0 3 ∷ send 0x34 1 5 ∷ send 0x35 2 80 ∷ send 0x36 3 0 ∷ send 0x37 1 3167 ∷ send 0x3f 0 2
    ∷ send 0x4d 0 255 ∷ send 0x62 0 6 ∷ []

pub record Parts : Type 0 where
  pub flags_of : map raw_modes each_mode ≡ each_flag
  pub modes_of_lem : map modes_of each_flag ≡ each_mode
  pub sequences_of : map sequence_of each_pending ≡ each_sequence
  pub pending_of_lem : map pending_of each_sequence ≡ each_pending
  pub sends_of : map raw_sending each_sending ≡ each_send
  pub sending_of_lem : map sending_of each_send ≡ each_sending

-- ---- numbers that name no state: one of `numbers` is another

abbrev pub q : RawSequence
q = sequence 19 0x41 3 0

abbrev pub y : RawSending
y = send 0x35 2 264

pub record Unnamed : Type 0 where
  -- flags of 2, 256 bells, other personalities
  pub flags : map named
      (numbers_with 2 0 7 60 q y 0 1 0 ∷ numbers_with 1 2 7 60 q y 0 1 0 ∷ numbers_with 1 0 7 60 q y 2 1 0 ∷ numbers_with 1 0 7 60 q y 0 2 0
      ∷ numbers_with 1 0 7 60 q y 0 1 2 ∷ []) ≡ replicate 5 false
  pub bells : map (λ n. named (numbers_with 1 0 n 60 q y 0 1 0)) (255 ∷ 256 ∷ []) ≡ true ∷ false ∷ []
  pub personalities : map (λ n. named (numbers_with 1 0 7 n q y 0 1 0)) (0 ∷ 49 ∷ 50 ∷ 51 ∷ 60 ∷ 61 ∷ [])
      ≡ false ∷ false ∷ true ∷ false ∷ true ∷ false ∷ []
  -- an unknown kind, and numbers that the kind does not have
  pub sequences : map (λ k. named (numbers_with 1 0 7 60 k y 0 1 0))
      (sequence 25 0 0 0 ∷ sequence 0 1 0 0 ∷ sequence 3 33 1 0 ∷ sequence 19 64 8 1 ∷ []) ≡ replicate 4 false
  -- an unknown command, a kind of another command, a number at the end, 256 bytes of a short reply
  pub sends : map (λ k. named (numbers_with 1 0 7 60 q k 0 1 0))
      (send 0x33 0 0 ∷ send 0 0 1 ∷ send 0x35 0 0 ∷ send 0x35 4 0 ∷ send 0x35 3 1 ∷ send 0x3f 1 2 ∷ send 0x3f 0 256 ∷ []) ≡ replicate 7 false

-- the answers of save and restore
pub record Answers : Type 0 where
  pub saves : map save_number (Ok 65535 ∷ Err Refusal.BadState ∷ Err Refusal.BadStore ∷ Err Refusal.Full ∷ [])
      ≡ 0 ∷ 7 ∷ 9 ∷ 11 ∷ []
  pub number : saved_as (Ok 65535) ≡ 65535
  pub restores : map restore_number (Ok (state_with []) ∷ Err Refusal.BadState ∷ Err Refusal.BadStore ∷ Err Refusal.BadNumber ∷ [])
      ≡ 0 ∷ 7 ∷ 9 ∷ 10 ∷ []

pub record Worked : Type 0 where
  pub states : States
  pub parts : Parts
  pub unnamed : Unnamed
  pub answers : Answers
