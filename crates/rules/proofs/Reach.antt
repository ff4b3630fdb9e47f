-- A sequence is possible exactly if some bytes from power-on leave it under way, and so is a remembered attribute.
--     reach     the statement of specs/Reach
-- Assumes nothing.
use mathlib.Core.Path.{◌≡◌, refl, ap, subst, ◌∙◌}
use mathlib.Core.Bool.{Bool, true, false}
use mathlib.Core.List.{List, [], ◌∷◌, ◌++◌, append-nil}
use Prim.Native.Nat.{ℕ, zero, suc, ◌+◌, ◌-◌, ◌*◌, ◌/◌, ◌^◌, ◌<◌, ◌≤◌}
use native.Mathlib.Nat.{sub-zero, zero-add, add-zero}
use native.Mathlib.Numerals.{add-one}
use native.Mathlib.Omega.{arith}
use lib.Dec.{leb, ltb, eqb, lit<}
use lib.Seq.{append_snoc, take-suc-set}
use lib.ListN.{length, take, set, replicate, length-take, length-set}
use borrow.Author.Tests.{ltb-true, leb-true, lt-ltb, le-leb, le-ltb, lt-leb, ne_eqb}
use Rattle.rules.specs.declared.State.{State}
use Rattle.rules.specs.declared.Personality.{Personality}
use Rattle.rules.specs.declared.Personality.TheVariants as Personality
use Rattle.rules.specs.declared.Slot.{Slot}
use Rattle.rules.specs.declared.Slot.TheVariants as Slot
use Rattle.rules.specs.declared.Pending.{Pending}
use Rattle.rules.specs.declared.Pending.TheVariants as Pending
use Rattle.rules.specs.declared.Argument.{Argument}
use Rattle.rules.specs.declared.Argument.TheVariants as Argument
use Rattle.rules.specs.declared.Decoded.{Decoded}
use Rattle.rules.specs.declared.Decoded.TheVariants as Decoded
use Rattle.rules.specs.declared.Sending.TheVariants as Sending
use Rattle.rules.specs.Row.{columns}
use Rattle.rules.specs.Cell.{both, either, between}
use Rattle.rules.specs.State.{awaiting, sends, changed, sending_after, gathered_after, setup_after}
use Rattle.rules.specs.Arguments.{is_attribute, feature_place, is_key, is_label}
use Rattle.rules.specs.Slot.{slot_ok, slot_end, slot_most, slot_low, is_text, all_text, text_ok, texts_ok}
use Rattle.rules.specs.Possible.{power_on, blank, unsplit_ok, screen_ok, attributes_ok, features_ok, pending_ok, remembered_ok, sending_ok, no_stops}
use Rattle.rules.specs.Possible.{core_ok, setup_ok, possible, good}
use Rattle.rules.specs.Decode.{lookup, idle_rule, escape_rule, split_rule, digit_rule, decimal_row_rule, decimal_column_rule, slot_rule, text_rule}
use Rattle.rules.specs.Decode.{argument_rule, decode_rule}
use Rattle.rules.specs.Send.{digit}
use Rattle.rules.specs.Step.{Outcome, obeyed, inner_rule, step_rule}
use Rattle.rules.specs.Calls.{Call, Ran, joined, repeated, run_rule, play}
use Rattle.rules.specs.Theorems.Reach.{digits, opening, slot_bytes, bytes_for, UnderWay, Reach}
use Rattle.rules.proofs.Tests.{both_parts, both_true, between_parts}
use Rattle.rules.proofs.Texts.{text_parts}
use Rattle.rules.proofs.Decoding.{decoded_ok, decoded_ok_lem}
use Rattle.rules.proofs.Kept.{PossibleState, possible_parts, play_keeps, power_on_possible}
use Rattle.rules.proofs.Run.{run_done}
use Rattle.rules.proofs.Remembered.{attribute_reached}

-- ---- bytes that a sequence awaits

-- power-on with a sequence under way, and some bytes gathered
abbrev waiting : Personality → Pending → List ℕ → State
waiting m q g = record { core = awaiting (power_on m).core q; sending = Sending.Nothing; gathered = g; setup = (power_on m).setup }

-- the bytes lead from a sequence to a sequence, each being awaited or gathered
data Leads : List ℕ → Pending → List ℕ → Pending → List ℕ → Type 0 where
  stay : {q : Pending} {g : List ℕ} → Leads [] q g q g
  wait : {b : ℕ} {bs : List ℕ} {q r z : Pending} {g h : List ℕ} → b < 128 → decode_rule q b ≡ Decoded.Wait r → Leads bs r g z h
      → Leads (b ∷ bs) q g z h
  gather : {b n : ℕ} {bs : List ℕ} {x : Slot} {q z : Pending} {g h : List ℕ} → b < 128 → decode_rule q b ≡ Decoded.Gather x n b
      → Leads bs (Pending.Text x (n + 1)) (set g n b) z h → Leads (b ∷ bs) q g z h

leads_append : {a b : List ℕ} {q r z : Pending} {g h l : List ℕ} → Leads a q g r h → Leads b r h z l → Leads (a ++ b) q g z l
leads_append stay y = y
leads_append (wait h e x) y = wait h e (leads_append x y)
leads_append (gather h e x) y = gather h e (leads_append x y)

good_waiting : (m : Personality) (q : Pending) (g : List ℕ) → pending_ok q g ≡ true → good blank (waiting m q g) ≡ true
unfolding good possible core_ok setup_ok blank power_on columns no_stops screen_ok unsplit_ok texts_ok text_ok all_text attributes_ok is_attribute features_ok
    feature_place remembered_ok sending_ok
good_waiting Personality.Wy50 q g e = both_true e refl
good_waiting Personality.Wy60 q g e = both_true e refl

abbrev quietly : State → Outcome
quietly s = record { answer = 0; taken = true; state = s; page = blank; reply = [] }

module _ (m : Personality) (q : Pending) (g : List ℕ) (b room : ℕ) (p : pending_ok q g ≡ true) (h : b < 128) where
  step_waits : {r : Pending} → decode_rule q b ≡ Decoded.Wait r → step_rule blank (waiting m q g) b room ≡ quietly (waiting m r g)
  unfolding step_rule inner_rule obeyed sending_after gathered_after setup_after changed
  step_waits e = rw (good_waiting m q g p, lt-ltb b 128 h, e)

  step_gathers : {x : Slot} {n : ℕ} → decode_rule q b ≡ Decoded.Gather x n b
      → step_rule blank (waiting m q g) b room ≡ quietly (waiting m (Pending.Text x (n + 1)) (set g n b))
  unfolding step_rule inner_rule obeyed sending_after gathered_after setup_after changed
  step_gathers e = rw (good_waiting m q g p, lt-ltb b 128 h, e)

quiet_byte : (b : ℕ) (bs : List ℕ) (s t : State) (room : ℕ) → sends s.sending ≡ false → step_rule blank s b room ≡ quietly t
    → (repeated (b ∷ bs) blank s room).state ≡ (repeated bs blank t room).state
unfolding repeated joined
quiet_byte b bs s t room u e = rw (u, e, sub-zero)

leads_run : (m : Personality) {a : List ℕ} {q z : Pending} {g l : List ℕ} (room : ℕ) → Leads a q g z l → pending_ok q g ≡ true
    → (repeated a blank (waiting m q g) room).state ≡ waiting m z l
unfolding decoded_ok
leads_run m room (stay {q} {g}) p = ap (λ (r : Ran). r.state) (run_done blank (waiting m q g) room)
leads_run m room (wait {b} {bs} {q} {r} {z} {g} h e x) p =
    quiet_byte b bs (waiting m q g) (waiting m r g) room refl (step_waits m q g b room p h e)
    ∙ leads_run m room x (rw e at (decoded_ok_lem q g b h p))
leads_run m room (gather {b} {n} {bs} {x} {q} {z} {g} h e y) p =
    quiet_byte b bs (waiting m q g) (waiting m (Pending.Text x (n + 1)) (set g n b)) room refl (step_gathers m q g b room p h e)
    ∙ leads_run m room y (rw e at (decoded_ok_lem q g b h p))

-- nothing is gathered at power-on
abbrev none : List ℕ
none = replicate 46 0

-- ---- the digits of ESC a

module _ (most : ℕ) (next : ℕ → ℕ → Pending)
    (takes : (n x b : ℕ) → n < most → 0x30 ≤ b → b < 0x3a → decode_rule (next n x) b ≡ Decoded.Wait (next (n + 1) (x * 10 + (b - 0x30)))) where
  lead_digits : (n x : ℕ) → n ≤ most → x < 10 ^ n → Leads (digits n x) (next 0 0) none (next n x) none
  unfolding digits
  lead_digits zero x h l =
      let e : x ≡ 0 = omega arith in
      rw e stay
  lead_digits (suc n) x h l =
      let e : next (n + 1) (x / 10 * 10 + (digit x - 0x30)) ≡ next (suc n) x = rw (add-one n, whole) in
      leads_append (lead_digits n (x / 10) (omega arith) (omega arith))
      (wait (omega arith) (takes n (x / 10) (digit x) (omega arith) (omega arith) (omega arith)) (rw e stay))
    where
      whole : x / 10 * 10 + (digit x - 0x30) ≡ x
      whole = omega arith

-- a digit is taken where one may come
is_digit : (n most b : ℕ) → n < most → 0x30 ≤ b → b < 0x3a → both (between 0x30 0x39 b) (ltb n most) ≡ true
is_digit n most b h l m = rw (le-leb 0x30 b l, lt-ltb b 0x3a m, lt-ltb n most h)

lead_row : (n x : ℕ) → n ≤ 2 → x < 10 ^ n → Leads (digits n x) (Pending.DecimalRow 0 0) none (Pending.DecimalRow n x) none
lead_row = lead_digits 2 Pending.DecimalRow takes
  where
    takes : (n x b : ℕ) → n < 2 → 0x30 ≤ b → b < 0x3a → decode_rule (Pending.DecimalRow n x) b ≡ Decoded.Wait
        (Pending.DecimalRow (n + 1) (x * 10 + (b - 0x30)))
    takes n x b h l m = unfold decode_rule decimal_row_rule digit_rule in rw (ne_eqb b 0x52 (omega arith), is_digit n 2 b h l m)

lead_column : (row n x : ℕ) → n ≤ 3 → x < 10 ^ n → Leads (digits n x) (Pending.DecimalColumn row 0 0) none (Pending.DecimalColumn row n x) none
lead_column row = lead_digits 3 (Pending.DecimalColumn row) takes
  where
    takes : (n x b : ℕ) → n < 3 → 0x30 ≤ b → b < 0x3a
        → decode_rule (Pending.DecimalColumn row n x) b ≡ Decoded.Wait (Pending.DecimalColumn row (n + 1) (x * 10 + (b - 0x30)))
    takes n x b h l m = unfold decode_rule decimal_column_rule digit_rule in rw (ne_eqb b 0x43 (omega arith), is_digit n 3 b h l m)

-- ---- texts

-- the bytes gathered after more of them, behind n
unfoldable pub gathered_by : ℕ → List ℕ → List ℕ → List ℕ
gathered_by n [] g = g
gathered_by n (b ∷ l) g = gathered_by (n + 1) l (set g n b)

pub gathered_text : (n : ℕ) (l g : List ℕ) → n + length l ≤ length g → take (n + length l) (gathered_by n l g) ≡ take n g ++ l
unfolding gathered_by
gathered_text n [] g h = rw (append-nil, add-zero)
gathered_text n (b ∷ l) g h =
    let e : n + suc (length l) ≡ n + 1 + length l = omega arith in
    let t : take (n + 1) (set g n b) ≡ take n g ++ b ∷ [] = rw (add-one n) (take-suc-set g n b (omega arith)) in
    rw (e, gathered_text (n + 1) l (set g n b) (omega (arith, length-set g n b)), t, append_snoc)

-- a byte of a kind is below 80h and ends no text of that kind
pub text_byte : (x : Slot) (b : ℕ) → is_text (slot_low x) b ≡ true → (b < 128) × (eqb b (slot_end x) ≡ false)
unfolding is_text slot_low slot_end
text_byte (Slot.Key v) b e = let r = both_parts (leb 0 b) (ltb b 0x7f) e in let h = ltb-true b 0x7f
    r.1 in (omega arith, ne_eqb b 0x7f (omega arith))
text_byte (Slot.Label v) b e =
    let r = both_parts (leb 0x20 b) (ltb b 0x7f) e in
    let h = ltb-true b 0x7f r.1 in
    let l = leb-true 0x20 b r.0 in
    (omega arith, ne_eqb b 0x0d (omega arith))
text_byte Slot.Message b e =
    let r = both_parts (leb 0x20 b) (ltb b 0x7f) e in
    let h = ltb-true b 0x7f r.1 in
    let l = leb-true 0x20 b r.0 in
    (omega arith, ne_eqb b 0x0d (omega arith))

lead_text : (x : Slot) (n : ℕ) (l g : List ℕ) → n + length l ≤ slot_most x → all_text (slot_low x) l ≡ true
    → Leads l (Pending.Text x n) g (Pending.Text x (n + length l)) (gathered_by n l g)
unfolding all_text gathered_by
lead_text x n [] g h e = rw add-zero stay
lead_text x n (b ∷ l) g h e =
    let r = both_parts (is_text (slot_low x) b) (all_text (slot_low x) l) e in
    let t = text_byte x b r.0 in
    let m : n + suc (length l) ≡ n + 1 + length l = omega arith in
    let y : Leads l (Pending.Text x (n + 1)) (set g n b) (Pending.Text x (n + suc (length l))) (gathered_by (n + 1) l (set g n b)) =
    rw m (lead_text x (n + 1) l (set g n b) (omega arith) r.1) in
    let w : decode_rule (Pending.Text x n) b ≡ Decoded.Gather x n b =
    unfold decode_rule text_rule in rw (t.1, lt-ltb n (slot_most x) (omega arith), r.0) in
    gather t.0 w y

-- the value of a key or a label is below 80h, and no value is both
value_below : (first last from to v : ℕ) → either (between first last v) (between from to v) ≡ true → last < 128 → to < 128 → v < 128
value_below first last from to v e h k = by (between first last v) refl e
  where
    by : (s : Bool) → between first last v ≡ s → either s (between from to v) ≡ true → v < 128
    by true a e = omega (arith, between_parts first last v a)
    by false a e = omega (arith, between_parts from to v e)

-- ---- the bytes of each sequence

-- where they lead: to it, and to the text of g where it gathers one
data Led (q : Pending) (g : List ℕ) : Type 0 where
  plain : {l : List ℕ} → ((x : Slot) (n : ℕ) → q ≡ Pending.Text x n → ◌≡◌ {A = ℕ} 0 1) → Leads (bytes_for q g) Pending.Idle none q l → Led q g
  text : {l : List ℕ} (n : ℕ) → ((x : Slot) (m : ℕ) → q ≡ Pending.Text x m → m ≡ n) → Leads (bytes_for q g) Pending.Idle none q l
      → take n l ≡ take n g → Led q g

escape : {x : ℕ} {bs : List ℕ} {r z : Pending} {g : List ℕ} → x < 128 → escape_rule x ≡ Decoded.Wait r → Leads bs r none z g
    → Leads (0x1b ∷ x ∷ bs) Pending.Idle none z g
unfolding decode_rule idle_rule lookup
escape h e x = wait (lit< tt) refl (wait h e x)

led_column : (row n column : ℕ) → both (ltb row 100) (both (leb n 3) (ltb column (10 ^ n))) ≡ true
    → Leads (digits 2 row ++ 0x52 ∷ digits n column) (Pending.DecimalRow 0 0) none (Pending.DecimalColumn row n column) none
unfolding decode_rule decimal_row_rule
led_column row n column e =
    let r = both_parts (ltb row 100) _ e in
    let d = both_parts (leb n 3) (ltb column (10 ^ n)) r.1 in
    leads_append (lead_row 2 row (omega arith) (ltb-true row 100 r.0))
    (wait (lit< tt) refl (lead_column row n column (leb-true n 3 d.0) (ltb-true column (10 ^ n) d.1)))

-- ESC z and its value, or ESC F, and then the text
not_key : (v : ℕ) → is_label v ≡ true → is_key v ≡ false
unfolding is_key is_label
not_key v e = by (between 0x30 0x37 v) refl e
  where
    unfold_both : (t : Bool) → either (both t false) false ≡ false
    unfold_both true = refl
    unfold_both false = refl

    by : (s : Bool) → between 0x30 0x37 v ≡ s → either s (between 0x50 0x57 v) ≡ true → either (between 0x40 0x4f v) (between 0x60 0x6f v) ≡ false
    by true a e =
        let r = between_parts 0x30 0x37 v a in
        rw (lt-leb 0x40 v (omega arith), lt-leb 0x60 v (omega arith))
    by false a e =
        let r = between_parts 0x50 0x57 v e in
        rw (le-ltb v 0x50 (omega arith), lt-leb 0x60 v (omega arith)) (unfold_both (leb 0x40 v))

led_slot : {bs : List ℕ} {z : Pending} {g : List ℕ} (x : Slot) → slot_ok x ≡ true → Leads bs (Pending.Text x 0) none z g
    → Leads (0x1b ∷ (slot_bytes x ++ bs)) Pending.Idle none z g
unfolding slot_bytes slot_ok decode_rule argument_rule escape_rule lookup slot_rule is_key is_label
led_slot (Slot.Key v) e x = escape (lit< tt) refl (wait (value_below 0x40 0x4f 0x60 0x6f v e (omega arith) (omega arith)) (rw e) x)
led_slot (Slot.Label v) e x =
    escape (lit< tt) refl (wait (value_below 0x30 0x37 0x50 0x57 v e (omega arith) (omega arith)) (rw (not_key v e, e)) x)
led_slot Slot.Message e x = escape (lit< tt) refl x

most_fits : (x : Slot) → slot_most x ≤ 46
unfolding slot_most
most_fits (Slot.Key v) = omega arith
most_fits (Slot.Label v) = omega arith
most_fits Slot.Message = omega arith

led_text : (x : Slot) (n : ℕ) (g : List ℕ) → length g ≡ 46 → pending_ok (Pending.Text x n) g ≡ true → Led (Pending.Text x n) g
unfolding pending_ok bytes_for
led_text x n g k e =
    let r = both_parts (slot_ok x) _ e in
    let t = text_parts (slot_low x) (slot_most x) n g r.1 in
    let m : n ≤ 46 = omega (arith, t.0, most_fits x) in
    let size : length (take n g) ≡ n = omega (arith, length-take n g) in
    let y : Leads (take n g) (Pending.Text x 0) none (Pending.Text x n) (gathered_by 0 (take n g) none) =
    rw (zero-add (length (take n g)), size) at (lead_text x 0 (take n g) none (omega arith) t.1) in
    let w : take n (gathered_by 0 (take n g) none)
    ≡ take n g = rw (zero-add (length (take n g)), size) at (gathered_text 0 (take n g) none (omega arith)) in
    text n (λ z m q. cc) (led_slot x r.0 y) w

-- spaces, one too many
spaces : (x : Slot)
    → Leads (replicate (slot_most x + 1) 0x20) (Pending.Text x 0) none (Pending.Spoilt x) (gathered_by 0 (replicate (slot_most x) 0x20) none)
unfolding slot_most slot_low slot_end is_text all_text decode_rule text_rule
spaces (Slot.Key v) = leads_append (lead_text (Slot.Key v) 0 (replicate 8 0x20) none (omega arith) refl) (wait (lit< tt) refl stay)
spaces (Slot.Label v) = leads_append (lead_text (Slot.Label v) 0 (replicate 8 0x20) none (omega arith) refl) (wait (lit< tt) refl stay)
spaces Slot.Message = leads_append (lead_text Slot.Message 0 (replicate 46 0x20) none (omega arith) refl) (wait (lit< tt) refl stay)

led_argument : (a : Argument) → Leads (0x1b ∷ opening a) Pending.Idle none (Pending.Awaits a) none
unfolding opening decode_rule argument_rule idle_rule escape_rule lookup split_rule
led_argument Argument.Address = escape (lit< tt) refl stay
led_argument Argument.Segment = escape (lit< tt) refl stay
led_argument Argument.Split = escape (lit< tt) refl stay
led_argument Argument.SplitRow = escape (lit< tt) refl (wait (lit< tt) refl stay)
led_argument Argument.Attribute = escape (lit< tt) refl stay
led_argument Argument.Graphic = escape (lit< tt) refl stay
led_argument Argument.FillAttribute = escape (lit< tt) refl stay
led_argument Argument.FillCode = escape (lit< tt) refl stay
led_argument Argument.Feature = escape (lit< tt) refl stay
led_argument Argument.FieldAttribute = escape (lit< tt) refl stay
led_argument Argument.Slot = escape (lit< tt) refl stay

led : (q : Pending) (g : List ℕ) → length g ≡ 46 → pending_ok q g ≡ true → Led q g
unfolding bytes_for pending_ok decode_rule argument_rule idle_rule escape_rule lookup
led Pending.Idle g k e = plain (λ x n z. cc) stay
led Pending.Escape g k e = plain (λ x n z. cc) (wait (lit< tt) refl stay)
led (Pending.Awaits a) g k e = plain (λ x n z. cc) (led_argument a)
led (Pending.AddressRow r) g k e = plain (λ x n z. cc) (escape (lit< tt) refl (wait (ltb-true r 128 e) refl stay))
led (Pending.SegmentNumber n) g k e = plain (λ x n z. cc) (escape (lit< tt) refl (wait (ltb-true n 128 e) refl stay))
led (Pending.SegmentRow n r) g k e =
    let d = both_parts (ltb n 128) (ltb r 128) e in
    plain (λ x n z. cc) (escape (lit< tt) refl (wait (ltb-true n 128 d.0) refl (wait (ltb-true r 128 d.1) refl stay)))
led (Pending.DecimalRow n row) g k e =
    let d = both_parts (leb n 2) (ltb row (10 ^ n)) e in
    plain (λ x n z. cc) (escape (lit< tt) refl (lead_row n row (leb-true n 2 d.0) (ltb-true row (10 ^ n) d.1)))
led (Pending.DecimalColumn row n column) g k e = plain (λ x n z. cc) (escape (lit< tt) refl (led_column row n column e))
led (Pending.FieldNumber n) g k e = plain (λ x n z. cc) (escape (lit< tt) refl (wait (ltb-true n 128 e) refl stay))
led (Pending.Text x n) g k e = led_text x n g k e
led (Pending.Spoilt x) g k e = plain (λ y n z. cc) (led_slot x e (spaces x))

run_leads : (m : Personality) {q : Pending} {g : List ℕ} (bytes : List ℕ) → Leads bytes Pending.Idle none q g
    → (run_rule blank (power_on m) bytes 1944).state ≡ waiting m q g
unfolding run_rule power_on pending_ok
run_leads m bytes x = rw (good_waiting m Pending.Idle none refl) (leads_run m 1944 x refl)

led_under_way : (m : Personality) (q : Pending) (g : List ℕ) → Led q g → UnderWay q g (run_rule blank (power_on m) (bytes_for q g) 1944).state
led_under_way m q g (plain h x) = rw (run_leads m (bytes_for q g) x) (record { pending = refl; text = λ y n e. absurd (omega (arith, h y n e)) })
led_under_way m q g (text n h x t) = rw (run_leads m (bytes_for q g) x) (record { pending = refl; text = λ y m e. rw (h y m e) t })

-- ---- and no other

-- the text of k makes it possible as the text gathered does
same_text : (q : Pending) (g k : List ℕ) → pending_ok q g ≡ true → ((x : Slot) (n : ℕ) → q ≡ Pending.Text x n → take n g ≡ take n k)
    → pending_ok q k ≡ true
unfolding pending_ok text_ok
same_text Pending.Idle g k h t = h
same_text Pending.Escape g k h t = h
same_text (Pending.Awaits a) g k h t = h
same_text (Pending.AddressRow r) g k h t = h
same_text (Pending.SegmentNumber m) g k h t = h
same_text (Pending.SegmentRow m r) g k h t = h
same_text (Pending.DecimalRow m row) g k h t = h
same_text (Pending.DecimalColumn row m column) g k h t = h
same_text (Pending.FieldNumber m) g k h t = h
same_text (Pending.Text x n) g k h t = rw (t x n refl) at h
same_text (Pending.Spoilt x) g k h t = h

-- what is possible after any calls from power-on
left : (m : Personality) (calls : List Call) → PossibleState (play calls blank (power_on m)).state
left m calls = possible_parts _ ((play_keeps calls blank (power_on m)).state (power_on_possible m))

-- the personality is still m
left_attribute : (m : Personality) (calls : List Call) → remembered_ok m (play calls blank (power_on m)).state.core.attribute ≡ true
unfolding power_on
left_attribute m calls =
    let s = (play calls blank (power_on m)).state in
    subst (λ (n : Personality). remembered_ok n s.core.attribute ≡ true) (play_keeps calls blank (power_on m)).personality
    (left m calls).core.remembered

pub reach : Reach
reach = record {
  possible_reached = λ m q g n h. led_under_way m q g (led q g n h);
  reached_possible = λ m calls q g u. same_text q _ g (rw u.pending at (left m calls).core.pending) u.text;
  attribute_reached = attribute_reached;
  reached_attribute = λ m calls. left_attribute m calls;
}
