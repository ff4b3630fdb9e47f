-- There and back: a state's numbers name that state, and the state that numbers name has those numbers.
--     numbers_named, unpacked_numbers     a state's numbers name a state, and it is that state, but for the bytes gathered; both where a byte
--         counts what of a short reply went
--     possible_fits     as it does in a possible state
--     packed_unpacked     numbers that name a state are what goes back to C, if the state is left
-- Assumes nothing.
use mathlib.Core.Path.{◌≡◌, refl, sym, ap, ap₂, ◌∙◌}
use mathlib.Core.Bool.{Bool, true, false, false≢true}
use mathlib.Core.List.{List, [], ◌∷◌, map}
use Prim.Native.Nat.{ℕ, ◌<◌}
use native.Mathlib.Omega.{arith}
use borrow.Author.Tests.{lt-ltb, ltb-true, eq-eqb, eqb-true, eqb-false}
use lib.Dec.{ltb, leb, eqb}
use Rattle.rules.specs.declared.Argument.TheVariants as Argument
use Rattle.rules.specs.declared.Slot.TheVariants as Slot
use Rattle.rules.specs.declared.Pending.{Pending}
use Rattle.rules.specs.declared.Modes.{Modes}
use Rattle.rules.specs.declared.Short.{Short}
use Rattle.rules.specs.declared.Place.{Place}
use Rattle.rules.specs.declared.Screen.{Screen}
use Rattle.rules.specs.declared.Sending.{Sending}
use Rattle.rules.specs.declared.State.{State}
use Rattle.rules.specs.declared.Personality.{Personality}
use Rattle.rules.specs.Cell.{pick, both, either}
use Rattle.rules.specs.State.{is_idle}
use Rattle.rules.specs.Possible.{short_length, replies_on, sending_ok}
use Rattle.rules.proofs.Sends.{short_most}
use Rattle.state.proofs.Tests.{both_left, both_right}
use Rattle.wy50.specs.declared.raw.RawModes.{RawModes}
use Rattle.wy50.specs.declared.raw.RawSequence.{RawSequence}
use Rattle.wy50.specs.declared.raw.RawSending.{RawSending}
use Rattle.wy50.specs.declared.raw.RawState.{RawState}
use Rattle.wy50.specs.Raw.{all_below, flag, is_on, personality_number, is_personality, personality_at, sequence_of, find, pending_of, same_sequence}
use Rattle.wy50.specs.Raw.{is_sequence, raw_modes, modes_of, are_flags}
use Rattle.wy50.specs.Raw.{raw_sending, sending_of, same_sending, is_sending}
use Rattle.wy50.proofs.Gathered.{laid_back}
use Rattle.wy50.specs.Raw.{raw_key, key_of, gathered_in, blanked, laid_over, numbers, packed, unpacked, named}

-- a flag
is_on_flag : (b : Bool) → is_on (flag b) ≡ b
is_on_flag true = refl
is_on_flag false = refl

flag_below : (b : Bool) → ltb (flag b) 2 ≡ true
flag_below true = refl
flag_below false = refl

flag_is_on : (v : ℕ) → ltb v 2 ≡ true → flag (is_on v) ≡ v
flag_is_on v h = by (is_on v) refl where
  by : (t : Bool) → is_on v ≡ t → flag t ≡ v
  by true e = omega (arith, eqb-true v 1 e)
  by false e = omega (arith, ltb-true v 2 h, eqb-false v 1 e)

-- a personality
personality_back : (m : Personality) → personality_at (personality_number m) ≡ m
personality_back Personality.Wy50 = refl
personality_back Personality.Wy60 = refl

personality_named : (m : Personality) → is_personality (personality_number m) ≡ true
personality_named Personality.Wy50 = refl
personality_named Personality.Wy60 = refl

number_back : (v : ℕ) → is_personality v ≡ true → personality_number (personality_at v) ≡ v
number_back v h = by (eqb v 60) refl (other (eqb v 50) refl h) where
  other : (t : Bool) → eqb v 50 ≡ t → either t (eqb v 60) ≡ true → eqb v 60 ≡ false → v ≡ 50
  other true e h z = eqb-true v 50 e
  other false e h z = absurd (false≢true (sym z ∙ h))

  by : (t : Bool) → eqb v 60 ≡ t → (eqb v 60 ≡ false → v ≡ 50) → personality_number (pick t Personality.Wy60 Personality.Wy50) ≡ v
  by true e o = sym (eqb-true v 60 e)
  by false e o = sym (o e)

-- a list of them, or of keys
map_back : {A B : Type 0} (f : A → B) (g : B → A) → ((a : A) → g (f a) ≡ a) → (l : List A) → map g (map f l) ≡ l
map_back f g h [] = refl
map_back f g h (a ∷ l) = ap₂ ◌∷◌ (h a) (map_back f g h l)

tabs_below : (l : List Bool) → all_below 2 (map flag l) ≡ true
unfolding all_below
tabs_below [] = refl
tabs_below (b ∷ l) = rw (flag_below b, tabs_below l)

tabs_back : (l : List ℕ) → all_below 2 l ≡ true → map flag (map is_on l) ≡ l
unfolding all_below
tabs_back [] h = refl
tabs_back (v ∷ l) h = ap₂ ◌∷◌ (flag_is_on v (both_left (ltb v 2) (all_below 2 l) h)) (tabs_back l (both_right (ltb v 2) (all_below 2 l) h))

-- the sequence under way
pending_back : (p : Pending) → pending_of (sequence_of p) ≡ p
unfolding find
pending_back Pending.Idle = refl
pending_back Pending.Escape = refl
pending_back (Pending.Awaits Argument.Address) = refl
pending_back (Pending.Awaits Argument.Segment) = refl
pending_back (Pending.Awaits Argument.Split) = refl
pending_back (Pending.Awaits Argument.SplitRow) = refl
pending_back (Pending.Awaits Argument.Attribute) = refl
pending_back (Pending.Awaits Argument.Graphic) = refl
pending_back (Pending.Awaits Argument.FillAttribute) = refl
pending_back (Pending.Awaits Argument.FillCode) = refl
pending_back (Pending.Awaits Argument.Feature) = refl
pending_back (Pending.Awaits Argument.FieldAttribute) = refl
pending_back (Pending.Awaits Argument.Slot) = refl
pending_back (Pending.AddressRow r) = refl
pending_back (Pending.SegmentNumber n) = refl
pending_back (Pending.SegmentRow n r) = refl
pending_back (Pending.DecimalRow n row) = refl
pending_back (Pending.DecimalColumn row n column) = refl
pending_back (Pending.FieldNumber n) = refl
pending_back (Pending.Text (Slot.Key v) n) = refl
pending_back (Pending.Text (Slot.Label v) n) = refl
pending_back (Pending.Text Slot.Message n) = refl
pending_back (Pending.Spoilt (Slot.Key v)) = refl
pending_back (Pending.Spoilt (Slot.Label v)) = refl
pending_back (Pending.Spoilt Slot.Message) = refl

same_self : (q : RawSequence) → same_sequence q q ≡ true
same_self q = rw (self q.kind, self q.first, self q.second, self q.third) where
  self : (n : ℕ) → eqb n n ≡ true
  self n = eq-eqb n n refl

same_equal : (a b : RawSequence) → same_sequence a b ≡ true → a ≡ b
same_equal a b h =
    let s = eqb a.second b.second in
    let t = eqb a.third b.third in
    let f = eqb a.first b.first in
    let k = eqb a.kind b.kind in
    let r = both_right k (both f (both s t)) h in
    let u = both_right f (both s t) r in
    let kind = eqb-true a.kind b.kind (both_left k (both f (both s t)) h) in
    let first = eqb-true a.first b.first (both_left f (both s t) r) in
    let second = eqb-true a.second b.second (both_left s t u) in
    let third = eqb-true a.third b.third (both_right s t u) in
    λ i. record { kind = kind i; first = first i; second = second i; third = third i }

sequence_named : (p : Pending) → is_sequence (sequence_of p) ≡ true
unfolding is_sequence
sequence_named p = ap (λ (q : Pending). same_sequence (sequence_of q) (sequence_of p)) (pending_back p) ∙ same_self (sequence_of p)

sequence_back : (q : RawSequence) → is_sequence q ≡ true → sequence_of (pending_of q) ≡ q
unfolding is_sequence
sequence_back q h = same_equal (sequence_of (pending_of q)) q h

-- the send under way: of a short reply a byte counts what went
abbrev pub sending_fits : Sending → Bool
sending_fits Sending.Nothing = true
sending_fits (Sending.Short r n) = ltb n 256
sending_fits (Sending.Text all segment k) = true

-- so it is in a possible state
pub possible_fits : (x : Screen) (q : Pending) (y : Sending) → sending_ok x q y ≡ true → sending_fits y ≡ true
unfolding sending_ok
possible_fits x q Sending.Nothing h = refl
possible_fits x q (Sending.Short r n) h =
    let k = both (leb 1 n) (ltb n (short_length r)) in
    let b = both_right (replies_on x r) k (both_right (is_idle q) (both (replies_on x r) k) h) in
    let l = ltb-true n (short_length r) (both_right (leb 1 n) (ltb n (short_length r)) b) in
    lt-ltb n 256 (omega (arith, l, short_most r))
possible_fits x q (Sending.Text all segment k) h = refl

sending_back : (y : Sending) → sending_fits y ≡ true → sending_of (raw_sending y) ≡ y
unfolding find
sending_back Sending.Nothing h = refl
sending_back (Sending.Short Short.Acknowledge n) h = rw h
sending_back (Sending.Short Short.Cell n) h = rw h
sending_back (Sending.Short Short.Identity n) h = rw h
sending_back (Sending.Short Short.Cursor n) h = rw h
sending_back (Sending.Short Short.SegmentCursor n) h = rw h
sending_back (Sending.Short Short.DecimalCursor n) h = rw h
sending_back (Sending.Text false false (Place.Cell i)) h = refl
sending_back (Sending.Text false false (Place.Break i)) h = refl
sending_back (Sending.Text false false Place.Return) h = refl
sending_back (Sending.Text false true (Place.Cell i)) h = refl
sending_back (Sending.Text false true (Place.Break i)) h = refl
sending_back (Sending.Text false true Place.Return) h = refl
sending_back (Sending.Text true false (Place.Cell i)) h = refl
sending_back (Sending.Text true false (Place.Break i)) h = refl
sending_back (Sending.Text true false Place.Return) h = refl
sending_back (Sending.Text true true (Place.Cell i)) h = refl
sending_back (Sending.Text true true (Place.Break i)) h = refl
sending_back (Sending.Text true true Place.Return) h = refl

same_send_self : (y : RawSending) → same_sending y y ≡ true
same_send_self y = rw (self y.command, self y.kind, self y.place) where
  self : (n : ℕ) → eqb n n ≡ true
  self n = eq-eqb n n refl

same_send_equal : (a b : RawSending) → same_sending a b ≡ true → a ≡ b
same_send_equal a b h =
    let c = eqb a.command b.command in
    let k = eqb a.kind b.kind in
    let n = eqb a.place b.place in
    let r = both_right c (both k n) h in
    let command = eqb-true a.command b.command (both_left c (both k n) h) in
    let kind = eqb-true a.kind b.kind (both_left k n r) in
    let place = eqb-true a.place b.place (both_right k n r) in
    λ i. record { command = command i; kind = kind i; place = place i }

sending_named : (y : Sending) → sending_fits y ≡ true → is_sending (raw_sending y) ≡ true
unfolding is_sending
sending_named y h = ap (λ (z : Sending). same_sending (raw_sending z) (raw_sending y)) (sending_back y h) ∙ same_send_self (raw_sending y)

raw_sending_back : (y : RawSending) → is_sending y ≡ true → raw_sending (sending_of y) ≡ y
unfolding is_sending
raw_sending_back y h = same_send_equal (raw_sending (sending_of y)) y h

-- the modes
modes_back : (m : Modes) → modes_of (raw_modes m) ≡ m
modes_back m = λ i. record {
  protect = is_on_flag m.protect i;
  writeprotect = is_on_flag m.writeprotect i;
  insert = is_on_flag m.insert i;
  autoscroll = is_on_flag m.autoscroll i;
  locked = is_on_flag m.locked i;
  local = is_on_flag m.local i;
}

modes_named : (m : Modes) → are_flags (raw_modes m) ≡ true
modes_named m =
    rw (flag_below m.protect, flag_below m.writeprotect, flag_below m.insert)
    (rw (flag_below m.autoscroll, flag_below m.locked, flag_below m.local))

-- six tests, and each of them
six : (a b c d e f : Bool) → both (both a (both b c)) (both d (both e f)) ≡ true
    → (a ≡ true) × (b ≡ true) × (c ≡ true) × (d ≡ true) × (e ≡ true) × (f ≡ true)
six a b c d e f h =
    let l = both_left (both a (both b c)) (both d (both e f)) h in
    let r = both_right (both a (both b c)) (both d (both e f)) h in
    let bc = both_right a (both b c) l in
    let ef = both_right d (both e f) r in
    (both_left a (both b c) l, both_left b c bc, both_right b c bc, both_left d (both e f) r, both_left e f ef, both_right e f ef)

raw_modes_back : (m : RawModes) → are_flags m ≡ true → raw_modes (modes_of m) ≡ m
raw_modes_back m h =
    let t = six (ltb m.protect 2) (ltb m.writeprotect 2) (ltb m.insert 2) (ltb m.autoscroll 2) (ltb m.locked 2) (ltb m.local 2) h in
    λ i. record {
      protect = flag_is_on m.protect t.0 i;
      writeprotect = flag_is_on m.writeprotect t.1 i;
      insert = flag_is_on m.insert t.2 i;
      autoscroll = flag_is_on m.autoscroll t.3 i;
      locked = flag_is_on m.locked t.4 i;
      local = flag_is_on m.local t.5 i;
    }

-- a state's numbers name a state; the bell count of a state is below 256
pub numbers_named : (g : List ℕ) (s : State) → s.core.bells < 256 → sending_fits s.sending ≡ true → named (numbers g s) ≡ true
unfolding numbers named
numbers_named g s h f =
    rw (
      modes_named s.core.modes,
      lt-ltb s.core.bells 256 h,
      sequence_named s.core.pending,
      sending_named s.sending f,
      tabs_below
          s.setup.tabs,
      flag_below s.setup.shifted,
      flag_below s.setup.wish,
      flag_below s.core.screen.wide,
      personality_named
          s.core.personality,
    )

-- and it is that state, with these bytes gathered
abbrev pub regathered : List ℕ → State → State
regathered g s = record { core = s.core; sending = s.sending; gathered = g; setup = s.setup }

pub unpacked_numbers : (g : List ℕ) (s : State) → sending_fits s.sending ≡ true → unpacked (numbers g s) ≡ regathered g s
unfolding numbers unpacked
unpacked_numbers g s f = λ i. record {
  core = record {
    screen = record {
      wide = is_on_flag s.core.screen.wide i;
      active = s.core.screen.active;
      split = s.core.screen.split;
      cursor0 = s.core.screen.cursor0;
      cursor1 = s.core.screen.cursor1;
    };
    modes = modes_back s.core.modes i;
    bells = s.core.bells;
    pending = pending_back s.core.pending i;
    personality = personality_back s.core.personality i;
    attribute = s.core.attribute;
  };
  sending = sending_back s.sending f i;
  gathered = g;
  setup = record {
    tabs = map_back flag is_on is_on_flag s.setup.tabs i;
    attributes = s.setup.attributes;
    features = s.setup.features;
    keys = map_back raw_key key_of (λ k. refl) s.setup.keys i;
    labels = map_back raw_key key_of (λ k. refl) s.setup.labels i;
    message = s.setup.message;
    shifted = is_on_flag s.setup.shifted i;
    wish = is_on_flag s.setup.wish i;
  };
}

-- numbers that name a state are what goes back to C, if the state is left
pub packed_unpacked : (x : RawState) → named x ≡ true → packed x (unpacked x) ≡ x
unfolding numbers unpacked named
packed_unpacked x h =
    let a = are_flags x.modes in
    let b = ltb x.bells 256 in
    let q = is_sequence x.sequence in
    let u = is_sending x.sending in
    let t = all_below 2 x.tabs in
    let z = ltb x.shifted 2 in
    let d = ltb x.wish 2 in
    let e = ltb x.screen.wide 2 in
    let f = both z (both d e) in
    let m = is_personality x.personality in
    let y = both f m in
    let v = both t y in
    let w = both u v in
    let r = both_right b (both q w) (both_right a (both b (both q w)) h) in
    let modes = raw_modes_back x.modes (both_left a (both b (both q w)) h) in
    let sequence = sequence_back x.sequence (both_left q w r) in
    let under = both_right q w r in
    let sending = raw_sending_back x.sending (both_left u v under) in
    let bits = both_right u v under in
    let tabs = tabs_back x.tabs (both_left t y bits) in
    let flags = both_left f m (both_right t y bits) in
    let shifted = flag_is_on x.shifted (both_left z (both d e) flags) in
    let width = both_right z (both d e) flags in
    let wish = flag_is_on x.wish (both_left d e width) in
    let wide = flag_is_on x.screen.wide (both_right d e width) in
    let personality = number_back x.personality (both_right f m (both_right t y bits)) in
    let keys = map_back key_of raw_key (λ k. refl) x.keys in
    let labels = map_back key_of raw_key (λ k. refl) x.labels in
    let gathered : laid_over (gathered_in (sequence_of (pending_of x.sequence))) x.gathered (blanked (gathered_in x.sequence) x.gathered)
    ≡ x.gathered =
    ap (λ (p : RawSequence). laid_over (gathered_in p) x.gathered (blanked (gathered_in x.sequence) x.gathered)) sequence
    ∙ laid_back (gathered_in x.sequence) x.gathered in
    λ i. record {
      screen = record {
        wide = wide i;
        active = x.screen.active;
        split = x.screen.split;
        cursor0 = x.screen.cursor0;
        cursor1 = x.screen.cursor1;
      };
      modes = modes i;
      bells = x.bells;
      personality = personality i;
      remembered = x.remembered;
      sequence = sequence i;
      sending = sending i;
      gathered = gathered i;
      tabs = tabs i;
      attributes = x.attributes;
      features = x.features;
      keys = keys i;
      labels = labels i;
      message = x.message;
      shifted = shifted i;
      wish = wish i;
    }
