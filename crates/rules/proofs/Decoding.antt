-- What a byte comes to after a possible sequence under way: a possible sequence again, a byte that the text can take, a text that its slot can
-- take, a refusal with 2 to 4, or a command whose change fits the set-up.
-- Assumes nothing.
use mathlib.Core.Path.{◌≡◌, refl}
use mathlib.Core.Bool.{Bool, true, false}
use mathlib.Core.List.{List, [], ◌∷◌}
use Prim.Native.Nat.{ℕ, ◌+◌, ◌-◌, ◌*◌, ◌^◌, ◌≤◌, ◌<◌}
use native.Mathlib.Omega.{arith}
use native.Mathlib.Nat.{pow-le-pow_right}
use native.Mathlib.Numerals.{add-one}
use lib.Dec.{ltb, leb, eqb}
use lib.ListN.{set}
use borrow.Author.Tests.{lt-ltb, le-leb, leb-true, ltb-true, ltb-false, eq-eqb, eqb-true}
use Rattle.rules.specs.declared.Slot.{Slot}
use Rattle.rules.specs.declared.Pending.{Pending}
use Rattle.rules.specs.declared.Pending.TheVariants as Pending
use Rattle.rules.specs.declared.Argument.{Argument}
use Rattle.rules.specs.declared.Argument.TheVariants as Argument
use Rattle.rules.specs.declared.Command.{Command}
use Rattle.rules.specs.declared.Contents.{Contents}
use Rattle.rules.specs.declared.Contents.TheVariants as Contents
use Rattle.rules.specs.declared.Clear.TheVariants as Clear
use Rattle.rules.specs.declared.Personality.TheVariants as Personality
use Rattle.rules.specs.declared.Decoded.{Decoded}
use Rattle.rules.specs.declared.Decoded.TheVariants as Decoded
use Rattle.rules.specs.Cell.{both, either, between}
use Rattle.rules.specs.State.{number}
use Rattle.rules.specs.Arguments.{is_attribute, attribute_contents, feature_place, is_key, is_label}
use Rattle.rules.specs.Slot.{slot_ok, slot_end, slot_most, slot_low, is_text, all_text, text_ok}
use Rattle.rules.specs.Possible.{remembered_ok, pending_ok}
use Rattle.rules.specs.Writable.{is_stored, writable}
use Rattle.rules.specs.Decode.{lookup, controls, escapes, idle_rule, escape_rule, judged, feature_rule, field_rule, split_rule, digit_rule}
use Rattle.rules.specs.Decode.{decimal_row_rule, decimal_column_rule, slot_rule, text_rule, spoilt_rule, argument_rule, decode_rule}
use Rattle.rules.proofs.Tests.{pick_if, both_parts, both_true, between_parts}
use Rattle.rules.proofs.Commands.{setting_ok, store_ok, fill_ok, clear_ok, kind_of}
use Rattle.rules.proofs.Numbers.{filled_ok}
use Rattle.rules.proofs.Texts.{text_begun, text_grown}

-- g are the bytes gathered
unfoldable pub decoded_ok : List ℕ → Decoded → Bool
decoded_ok g (Decoded.Wait r) = pending_ok r g
decoded_ok g (Decoded.Gather x n b) = pending_ok (Pending.Text x (n + 1)) (set g n b)
decoded_ok g (Decoded.Take x n) = pending_ok (Pending.Text x n) g
decoded_ok g (Decoded.Reject a) = between 2 4 (number a)
decoded_ok g (Decoded.Do d) = (kind_of d).ok

-- ---- tables: what holds of each entry holds at every byte

unfoldable pub entries_ok : (Decoded → Bool) → List (ℕ × Decoded) → Bool
entries_ok f [] = true
entries_ok f (r ∷ t) = both (f r.1) (entries_ok f t)

pub looked_up : (f : Decoded → Bool) (t : List (ℕ × Decoded)) (other : Decoded) (b : ℕ) → entries_ok f t ≡ true → f other ≡ true
    → f (lookup t other b) ≡ true
unfolding entries_ok lookup
looked_up f [] other b e h = h
looked_up f (r ∷ t) other b e h =
    let p = both_parts (f r.1) (entries_ok f t) e in
    pick_if (λ (d : Decoded). f d ≡ true) (eqb b r.0) (λ z. p.0) (λ z. looked_up f t other b p.1 h)

controls_ok : (g : List ℕ) → entries_ok (decoded_ok g) controls ≡ true
unfolding entries_ok decoded_ok clear_ok writable is_stored remembered_ok pending_ok
controls_ok g = refl

escapes_ok : (g : List ℕ) → entries_ok (decoded_ok g) escapes ≡ true
unfolding entries_ok decoded_ok clear_ok writable is_stored remembered_ok setting_ok pending_ok slot_ok text_ok slot_most all_text
escapes_ok g = refl

-- ---- the rules of the single sequences

-- one digit more
digit_more : (n v d : ℕ) → v < 10 ^ n → d < 10 → ltb (v * 10 + d) (10 ^ (n + 1)) ≡ true
digit_more n v d h k = lt-ltb (v * 10 + d) (10 ^ (n + 1)) (rw add-one (omega arith))

abbrev Ok : List ℕ → Decoded → Type 0
Ok g d = decoded_ok g d ≡ true

module _ (g : List ℕ) where
  judged_ok : (t : Bool) (d : Command) → (t ≡ true → (kind_of d).ok ≡ true) → decoded_ok g (judged t d) ≡ true
  unfolding judged decoded_ok
  judged_ok true d h = h refl
  judged_ok false d h = refl

  idle_ok : (b : ℕ) → decoded_ok g (idle_rule b) ≡ true
  unfolding idle_rule decoded_ok store_ok
  idle_ok b =
      pick_if (Ok g) (ltb b 0x20) (λ e. looked_up (decoded_ok g) controls _ b (controls_ok g) refl)
      (λ e. pick_if (Ok g) (ltb b 0x7f) (λ z. both_true (le-leb 0x20 b (ltb-false b 0x20 e)) z) (λ z. refl))

  escape_ok : (b : ℕ) → decoded_ok g (escape_rule b) ≡ true
  unfolding escape_rule decoded_ok
  escape_ok b = looked_up (decoded_ok g) escapes _ b (escapes_ok g) refl

  feature_ok : (f : ℕ) → decoded_ok g (feature_rule f) ≡ true
  unfolding feature_rule decoded_ok setting_ok
  feature_ok f = pick_if (Ok g) (between 0x3a 0x3b f) (λ e. refl)
      (λ e. judged_ok (ltb (feature_place f) 5) _ (λ z. both_true z (eq-eqb (feature_place f) _ refl)))

  field_ok : (n a : ℕ) → decoded_ok g (field_rule n a) ≡ true
  unfolding field_rule setting_ok
  field_ok n a =
      judged_ok (both (between 0x30 0x33 n) (is_attribute a)) _ (λ e.
      let r = both_parts (between 0x30 0x33 n) (is_attribute a) e in
      let m = between_parts 0x30 0x33 n r.0 in
      both_true (lt-ltb (n - 0x30) 4 (omega arith)) r.1)

  split_ok_lem : (b : ℕ) → decoded_ok g (split_rule b) ≡ true
  unfolding split_rule decoded_ok pending_ok
  split_ok_lem b =
      pick_if (Ok g) (eqb b 0x30) (λ e. refl) (λ e. pick_if (Ok g) (eqb b 0x31) (λ z. refl) (λ z. refl))

  digit_ok : (most n b : ℕ) (next : Pending) → (n < most → b - 0x30 < 10 → pending_ok next g ≡ true)
      → decoded_ok g (digit_rule most n b next) ≡ true
  unfolding digit_rule decoded_ok
  digit_ok most n b next h =
      pick_if (Ok g) (both (between 0x30 0x39 b) (ltb n most)) (λ e.
      let r = both_parts (between 0x30 0x39 b) (ltb n most) e in
      let m = between_parts 0x30 0x39 b r.0 in
      h (ltb-true n most r.1) (omega arith)) (λ e. refl)

  decimal_row_ok : (n row b : ℕ) → pending_ok (Pending.DecimalRow n row) g ≡ true → decoded_ok g (decimal_row_rule n row b) ≡ true
  unfolding decimal_row_rule decoded_ok pending_ok
  decimal_row_ok n row b h =
      let p = both_parts (leb n 2) (ltb row (10 ^ n)) h in
      let l = leb-true n 2 p.0 in
      let m = ltb-true row (10 ^ n) p.1 in
      let u : 10 ^ n ≤ 100 = pow-le-pow_right {n = 10} (omega arith) l in
      pick_if (Ok g) (both (eqb b 0x52) (ltb 0 n)) (λ e. both_true (lt-ltb row 100 (omega arith)) refl)
      (λ e. digit_ok 2 n b _ (λ i j. both_true (le-leb (n + 1) 2 (omega arith)) (digit_more n row (b - 0x30) m j)))

  decimal_column_ok : (row n column b : ℕ) → pending_ok (Pending.DecimalColumn row n column) g ≡ true
      → decoded_ok g (decimal_column_rule row n column b) ≡ true
  unfolding decimal_column_rule decoded_ok pending_ok
  decimal_column_ok row n column b h =
      let p = both_parts (ltb row 100) _ h in
      let r = both_parts (leb n 3) (ltb column (10 ^ n)) p.1 in
      pick_if (Ok g) (both (eqb b 0x43) (ltb 0 n)) (λ e. refl)
      (λ e. digit_ok 3 n b _ (λ i j. both_true p.0 (both_true (le-leb (n + 1) 3 (omega arith))
      (digit_more n column (b - 0x30) (ltb-true column (10 ^ n) r.1) j))))

  slot_ok_lem : (v : ℕ) → decoded_ok g (slot_rule v) ≡ true
  unfolding slot_rule decoded_ok pending_ok slot_ok setting_ok
  slot_ok_lem v =
      pick_if (Ok g) (is_key v) (λ e. both_true e (text_begun _ _ g))
      (λ e. pick_if (Ok g) (is_label v) (λ z. both_true z (text_begun _ _ g)) (λ z. judged_ok (eqb v 0x7f) _ (λ y. refl)))

  spoilt_ok : (x : Slot) (b : ℕ) → slot_ok x ≡ true → decoded_ok g (spoilt_rule x b) ≡ true
  unfolding spoilt_rule decoded_ok pending_ok
  spoilt_ok x b h = pick_if (Ok g) (eqb b (slot_end x)) (λ e. refl) (λ e. h)

  text_ok_lem : (x : Slot) (n b : ℕ) → pending_ok (Pending.Text x n) g ≡ true → decoded_ok g (text_rule x n b) ≡ true
  unfolding text_rule decoded_ok pending_ok
  text_ok_lem x n b e =
      let r = both_parts (slot_ok x) _ e in
      pick_if (Ok g) (eqb b (slot_end x)) (λ z. e)
      (λ z. pick_if (Ok g) (both (ltb n (slot_most x)) (is_text (slot_low x) b))
      (λ t.
      let w = both_parts (ltb n (slot_most x)) (is_text (slot_low x) b) t in
      both_true r.0 (text_grown (slot_low x) (slot_most x) n g b r.1 (ltb-true n (slot_most x) w.0) w.1)) (λ t. r.0))

-- attr as text and as an attribute
attribute_contents_ok : (a : ℕ) → is_attribute a ≡ true → fill_ok (attribute_contents a) ≡ true
unfolding is_attribute attribute_contents fill_ok
attribute_contents_ok a h =
    pick_if (λ (k : Contents). fill_ok k ≡ true) (eqb a 0x20) (λ e. let z = eqb-true a 0x20 e in rw z) (λ e. rw e at h)

segment_ok : (k : Contents) → fill_ok k ≡ true → clear_ok (Clear.Segment k) ≡ true
unfolding clear_ok
segment_ok k e = both_true (filled_ok Personality.Wy50 k e) (filled_ok Personality.Wy60 k e)

argument_ok : (g : List ℕ) (a : Argument) (b : ℕ) → b < 128 → decoded_ok g (argument_rule a b) ≡ true
unfolding argument_rule decoded_ok pending_ok store_ok fill_ok
argument_ok g Argument.Address b h = lt-ltb b _ (omega arith)
argument_ok g Argument.Segment b h = lt-ltb b _ (omega arith)
argument_ok g Argument.Split b h = split_ok_lem g b
argument_ok g Argument.SplitRow b h = refl
argument_ok g Argument.Attribute b h = judged_ok g (is_attribute b) _ (λ z. z)
argument_ok g Argument.Graphic b h = judged_ok g (between 0x30 0x3f b) _ (λ z. z)
argument_ok g Argument.FillAttribute b h = judged_ok g (is_attribute b) _ (λ z. segment_ok (attribute_contents b) (attribute_contents_ok b z))
argument_ok g Argument.FillCode b h = judged_ok g (either (eqb b 0) (between 0x20 0x7e b)) _ (λ z. segment_ok (Contents.Text b) z)
argument_ok g Argument.Feature b h = feature_ok g b
argument_ok g Argument.FieldAttribute b h = lt-ltb b _ (omega arith)
argument_ok g Argument.Slot b h = slot_ok_lem g b

pub decoded_ok_lem : (q : Pending) (g : List ℕ) (b : ℕ) → b < 128 → pending_ok q g ≡ true → decoded_ok g (decode_rule q b) ≡ true
unfolding decode_rule decoded_ok pending_ok
decoded_ok_lem Pending.Idle g b h e = idle_ok g b
decoded_ok_lem Pending.Escape g b h e = escape_ok g b
decoded_ok_lem (Pending.Awaits a) g b h e = argument_ok g a b h
decoded_ok_lem (Pending.AddressRow r) g b h e = refl
decoded_ok_lem (Pending.SegmentNumber n) g b h e = both_true e (lt-ltb b _ (omega arith))
decoded_ok_lem (Pending.SegmentRow n r) g b h e = refl
decoded_ok_lem (Pending.DecimalRow n row) g b h e = decimal_row_ok g n row b e
decoded_ok_lem (Pending.DecimalColumn row n column) g b h e = decimal_column_ok g row n column b e
decoded_ok_lem (Pending.FieldNumber f) g b h e = field_ok g f b
decoded_ok_lem (Pending.Text x n) g b h e = text_ok_lem g x n b e
decoded_ok_lem (Pending.Spoilt x) g b h e = spoilt_ok g x b e
