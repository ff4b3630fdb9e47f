-- The bytes of a set-up, fed to a terminal from power-on, group by group.
--     stops_fed, features_fed, attributes_fed, keys_fed, labels_fed
--     setup_fed     all of them, from power-on
-- Assumes nothing.
use mathlib.Core.Path.{◌≡◌, refl, sym, ◌∙◌}
use mathlib.Core.Bool.{Bool, true, false}
use mathlib.Core.List.{List, [], ◌∷◌, ◌++◌, map}
use mathlib.Core.Logic.{◌⊎◌, inl, inr}
use Prim.Native.Nat.{ℕ, suc, ◌+◌, ◌-◌, ◌%◌, ◌<◌, ◌≤◌}
use native.Mathlib.Nat.{add-zero}
use native.Mathlib.Omega.{arith}
use lib.Dec.{leb, ltb, eqb, lit<}
use lib.Seq.{append_snoc, set_at}
use lib.ListN.{length, take, set, replicate, length-set, length-append, length-take}
use borrow.Author.Tests.{lt-ltb, le-ltb, le-leb, lt-leb, ltb-true, ltb-false, eqb-true, eq-eqb, ne_eqb}
use Rattle.rules.specs.declared.State.{State}
use Rattle.rules.specs.declared.Setup.{Setup}
use Rattle.rules.specs.declared.Text.{Text}
use Rattle.rules.specs.declared.Personality.{Personality}
use Rattle.rules.specs.declared.Slot.{Slot}
use Rattle.rules.specs.declared.Command.TheVariants as Command
use Rattle.rules.specs.declared.Setting.TheVariants as Setting
use Rattle.rules.specs.declared.SetupChange.TheVariants as SetupChange
use Rattle.rules.specs.declared.Argument.TheVariants as Argument
use Rattle.rules.specs.declared.Decoded.{Decoded}
use Rattle.rules.specs.declared.Pending.{Pending}
use Rattle.rules.specs.Cell.{both, either, between}
use Rattle.rules.specs.Row.{columns}
use Rattle.rules.specs.Search.{last_true}
use Rattle.rules.specs.State.{cursor_of, short_bytes, short_text, no_text, key_place, label_place, with_tabs, with_attributes, with_features, with_keys}
use Rattle.rules.specs.State.{with_labels, changed, stored}
use Rattle.rules.specs.Arguments.{is_attribute, feature_place, is_key, is_label}
use Rattle.rules.specs.Slot.{slot_end, slot_most, slot_low, is_text, all_text, text_ok, texts_ok}
use Rattle.rules.specs.Possible.{power_on, attributes_ok, features_ok}
use Rattle.rules.specs.Decode.{lookup, judged, idle_rule, escape_rule, feature_rule, field_rule, slot_rule, text_rule, argument_rule, decode_rule}
use Rattle.rules.specs.Plan.{setting_plan, plan_rule}
use Rattle.rules.proofs.Tests.{pick_if, both_parts, both_true, between_parts, either_way}
use Rattle.rules.proofs.Texts.{text_parts}
use Rattle.rules.proofs.Reach.{gathered_by, gathered_text, text_byte}
use Rattle.saved.specs.SetupBytes.{stop_bytes, by_code, feature_bytes, attribute_bytes, text_bytes, texts_bytes, key_value, label_value, keys_bytes}
use Rattle.saved.specs.SetupBytes.{labels_bytes, setup_bytes}
use Rattle.saved.specs.Settings.{Shaped}
use Rattle.saved.proofs.Feed.{Fed, none, fed_append, state_at, waits, gathers, takes, sets, goes}

-- ---- tab stops

module _ (m : Personality) (g : List ℕ) (u : Setup) (p : List ℕ) (size : length p ≡ 1920) (beyond : List Bool) where
  -- ESC = 20h c ESC 1 sets the stop, and leaves the cursor there
  stop_fed : (i k : ℕ) (a rest : List Bool) → k < 80 → length a ≡ k
      → Fed p (0x1b ∷ 0x3d ∷ 0x20 ∷ (0x20 + k) ∷ 0x1b ∷ 0x31 ∷ []) (state_at m i Pending.Idle g (with_tabs u (a ++ false ∷ rest)))
      (state_at m k Pending.Idle g (with_tabs u (a ++ true ∷ rest)))
  unfolding decode_rule idle_rule escape_rule argument_rule lookup plan_rule setting_plan changed cursor_of columns power_on
  stop_fed i k a rest h e =
      let c : k % 80 ≡ k = omega arith in
      let y : Fed p (0x31 ∷ []) (state_at m k Pending.Escape g (with_tabs u (a ++ false ∷ rest)))
      (state_at m k Pending.Idle g (with_tabs u (set (a ++ false ∷ rest) (k % 80) true))) =
      sets m 0x31 (lit< tt) (Command.Set (Setting.Tab true)) (SetupChange.Tab (k % 80) true) refl refl in
      waits m 0x1b (lit< tt) refl (waits m 0x3d (lit< tt) refl (waits m 0x20 (lit< tt) refl
      (fed_append (goes m i g (with_tabs u (a ++ false ∷ rest)) p size k h)
      (waits m 0x1b (lit< tt) refl (rw (c, set_at a false rest true k e) at y)))))

  pub stops_fed : (i k : ℕ) (a l : List Bool) → length a ≡ k → k + length l ≡ 80
      → Fed p (stop_bytes k l) (state_at m i Pending.Idle g (with_tabs u (a ++ (replicate (length l) false ++ beyond))))
      (state_at m (last_true i k l) Pending.Idle g (with_tabs u (a ++ (l ++ beyond))))
  unfolding stop_bytes
  stops_fed i k a [] e f = none refl
  stops_fed i k a (true ∷ l) e f =
      let more : length (a ++ true ∷ []) ≡ suc k = omega (arith, length-append a (true ∷ [])) in
      fed_append (stop_fed i k a (replicate (length l) false ++ beyond) (omega arith) e)
      (rw (append_snoc a true (replicate (length l) false ++ beyond), append_snoc a true (l ++ beyond)) at
      (stops_fed k (suc k) (a ++ true ∷ []) l more (omega arith)))
  stops_fed i k a (false ∷ l) e f =
      let more : length (a ++ false ∷ []) ≡ suc k = omega (arith, length-append a (false ∷ [])) in
      rw (append_snoc a false (replicate (length l) false ++ beyond), append_snoc a false (l ++ beyond)) at
      (stops_fed i (suc k) (a ++ false ∷ []) l more (omega arith))

-- ---- features

between_beyond : (first last v : ℕ) → last + 1 ≤ v → between first last v ≡ false
between_beyond first last v h = rw (le-ltb v (last + 1) h) (by (leb first v))
  where
    by : (t : Bool) → both t false ≡ false
    by true = refl
    by false = refl

between_below : (first last v : ℕ) → v < first → between first last v ≡ false
between_below first last v h = rw (lt-leb first v h)

-- the code of a feature is below 80h, and neither 3Ah nor 3Bh
feature_code : (f : ℕ) → feature_place f < 5 → (f < 128) × (between 0x3a 0x3b f ≡ false)
unfolding feature_place
feature_code f h = (low, wish (either_way (ltb f 0x3a)) (either_way (ltb f 0x3c)))
  where
    other : (k : ℕ) → feature_place k ≡ 5 → f ≡ k → ⊥
    other k z e = let j : feature_place k < 5 = rw e at h in omega (arith, j, z)

    is_last : 0x3a ≤ f → f < 0x3c → (f ≡ 0x3a → ⊥) → f ≡ 0x3b
    is_last a b n = omega (arith, n)

    wish : (ltb f 0x3a ≡ true) ⊎ (ltb f 0x3a ≡ false) → (ltb f 0x3c ≡ true) ⊎ (ltb f 0x3c ≡ false) → between 0x3a 0x3b f ≡ false
    wish (inl e) u = between_below 0x3a 0x3b f (ltb-true f 0x3a e)
    wish (inr e) (inr u) = between_beyond 0x3a 0x3b f (ltb-false f 0x3c u)
    wish (inr e) (inl u) =
        let a = ltb-false f 0x3a e in
        let b = ltb-true f 0x3c u in
        let n : f ≡ 0x3a → ⊥ = other 0x3a refl in
        let m : f ≡ 0x3b → ⊥ = other 0x3b refl in
        absurd (m (is_last a b n))

    by : (ltb f 128 ≡ true) ⊎ (ltb f 128 ≡ false) → f < 128
    by (inl e) = ltb-true f 128 e
    by (inr e) =
        let k = ltb-false f 128 e in
        let z : feature_place f
        ≡ 5 = rw (
          between_beyond 0x30 0x31 f (omega arith),
          between_beyond 0x32 0x35 f (omega arith),
          between_beyond 0x36 0x37 f (omega arith),
          ne_eqb f 0x41 (λ e. omega arith),
          between_beyond 0x38 0x39 f (omega arith),
          between_beyond 0x3c 0x40 f (omega arith),
        ) in
        absurd (omega (arith, h))

    low : f < 128
    low = by (either_way (ltb f 128))

module _ (m : Personality) (i : ℕ) (g : List ℕ) (u : Setup) (p : List ℕ) where
  abbrev Here : Setup → State
  Here v = state_at m i Pending.Idle g v

  -- one code at its place
  feature_fed : (f k : ℕ) (old : List ℕ) → eqb (feature_place f) k ≡ true → k < 5
      → Fed p (0x1b ∷ 0x60 ∷ f ∷ []) (Here (with_features u old)) (Here (with_features u (set old k f)))
  unfolding decode_rule idle_rule escape_rule argument_rule lookup feature_rule judged plan_rule setting_plan changed
  feature_fed f k old e h =
      let at : feature_place f ≡ k = eqb-true (feature_place f) k e in
      let c = feature_code f (omega (arith, at)) in
      let d : decode_rule (Pending.Awaits Argument.Feature) f ≡ Decoded.Do (Command.Set (Setting.Feature f)) =
      rw (c.1, lt-ltb (feature_place f) 5 (omega (arith, at))) in
      let y : Fed p (f ∷ []) (state_at m i (Pending.Awaits Argument.Feature) g (with_features u old))
      (Here (with_features u (set old (feature_place f) f))) =
      sets m f c.0 (Command.Set (Setting.Feature f)) (SetupChange.Feature (feature_place f) f) d refl in
      waits m 0x1b (lit< tt) refl (waits m 0x60 (lit< tt) refl (rw at at y))

  five_fed : (a b c d e : ℕ) (o1 o2 o3 o4 o5 : ℕ) → features_ok 0 (a ∷ b ∷ c ∷ d ∷ e ∷ []) ≡ true
      → Fed p (feature_bytes (by_code (a ∷ b ∷ c ∷ d ∷ e ∷ []))) (Here (with_features u (o1 ∷ o2 ∷ o3 ∷ o4 ∷ o5 ∷ [])))
      (Here (with_features u (a ∷ b ∷ c ∷ d ∷ e ∷ [])))
  unfolding features_ok feature_bytes by_code
  five_fed a b c d e o1 o2 o3 o4 o5 h =
      let r0 = both_parts (eqb (feature_place a) 0) _ h in
      let r1 = both_parts (eqb (feature_place b) 1) _ r0.1 in
      let r2 = both_parts (eqb (feature_place c) 2) _ r1.1 in
      let r3 = both_parts (eqb (feature_place d) 3) _ r2.1 in
      let r4 = both_parts (eqb (feature_place e) 4) _ r3.1 in
      fed_append (feature_fed a 0 _ r0.0 (omega arith)) (fed_append (feature_fed b 1 _ r1.0 (omega arith))
      (pick_if (λ (l : List ℕ). Fed p (feature_bytes l) (Here (with_features u (a ∷ b ∷ o3 ∷ o4 ∷ o5 ∷ [])))
      (Here (with_features u (a ∷ b ∷ c ∷ d ∷ e ∷ [])))) (ltb c 0x41)
      (λ t. fed_append (feature_fed c 2 _ r2.0 (omega arith))
      (fed_append (feature_fed d 3 _ r3.0 (omega arith)) (feature_fed e 4 _ r4.0 (omega arith))))
      (λ t. fed_append (feature_fed d 3 _ r3.0 (omega arith))
      (fed_append (feature_fed e 4 _ r4.0 (omega arith)) (feature_fed c 2 _ r2.0 (omega arith))))))

  pub features_fed : (l : List ℕ) (o1 o2 o3 o4 o5 : ℕ) → length l ≡ 5 → features_ok 0 l ≡ true
      → Fed p (feature_bytes (by_code l)) (Here (with_features u (o1 ∷ o2 ∷ o3 ∷ o4 ∷ o5 ∷ []))) (Here (with_features u l))
  features_fed [] o1 o2 o3 o4 o5 e h = absurd (omega arith)
  features_fed (a ∷ []) o1 o2 o3 o4 o5 e h = absurd (omega arith)
  features_fed (a ∷ b ∷ []) o1 o2 o3 o4 o5 e h = absurd (omega arith)
  features_fed (a ∷ b ∷ c ∷ []) o1 o2 o3 o4 o5 e h = absurd (omega arith)
  features_fed (a ∷ b ∷ c ∷ d ∷ []) o1 o2 o3 o4 o5 e h = absurd (omega arith)
  features_fed (a ∷ b ∷ c ∷ d ∷ f ∷ []) o1 o2 o3 o4 o5 e h = five_fed a b c d f o1 o2 o3 o4 o5 h
  features_fed (a ∷ b ∷ c ∷ d ∷ f ∷ x ∷ l) o1 o2 o3 o4 o5 e h = absurd (omega arith)

-- ---- field attributes

attribute_below : (a : ℕ) → is_attribute a ≡ true → a < 128
unfolding is_attribute
attribute_below a e = by (eqb a 0x20) (between 0x30 0x3f a) refl refl e
  where
    by : (s t : Bool) → eqb a 0x20 ≡ s → between 0x30 0x3f a ≡ t → either s (either t (between 0x70 0x7e a)) ≡ true → a < 128
    by true t x y e = omega (arith, eqb-true a 0x20 x)
    by false true x y e = omega (arith, between_parts 0x30 0x3f a y)
    by false false x y e = omega (arith, between_parts 0x70 0x7e a e)

module _ (m : Personality) (i : ℕ) (g : List ℕ) (u : Setup) (p : List ℕ) where
  attribute_fed : (n k a : ℕ) (old : List ℕ) → n ≡ 0x30 + k → k < 4 → is_attribute a ≡ true
      → Fed p (0x1b ∷ 0x41 ∷ n ∷ a ∷ []) (Here m i g u p (with_attributes u old)) (Here m i g u p (with_attributes u (set old k a)))
  unfolding decode_rule idle_rule escape_rule argument_rule lookup field_rule judged plan_rule setting_plan changed
  attribute_fed n k a old is l e =
      let z : n - 0x30 ≡ k = omega arith in
      let t : between 0x30 0x33 n ≡ true = both_true (le-leb 0x30 n (omega arith)) (lt-ltb n 0x34 (omega arith)) in
      let d : decode_rule (Pending.FieldNumber n) a ≡ Decoded.Do (Command.Set (Setting.Attribute k a)) = rw (t, e, z) in
      waits m 0x1b (lit< tt) refl (waits m 0x41 (lit< tt) refl (waits m n (omega arith) refl
      (sets m a (attribute_below a e) (Command.Set (Setting.Attribute k a)) (SetupChange.Attribute k a) d refl)))

  pub attributes_fed : (n k : ℕ) (a l old : List ℕ) → n ≡ 0x30 + k → length a ≡ k → length old ≡ length l → k + length l ≤ 4
      → attributes_ok l ≡ true
      → Fed p (attribute_bytes n l) (Here m i g u p (with_attributes u (a ++ old))) (Here m i g u p (with_attributes u (a ++ l)))
  unfolding attribute_bytes attributes_ok
  attributes_fed n k a [] [] is e s f h = none refl
  attributes_fed n k a [] (o ∷ old) is e s f h = absurd (omega arith)
  attributes_fed n k a (v ∷ l) [] is e s f h = absurd (omega arith)
  attributes_fed n k a (v ∷ l) (o ∷ old) is e s f h =
      let r = both_parts (is_attribute v) (attributes_ok l) h in
      let more : length (a ++ v ∷ []) ≡ suc k = omega (arith, length-append a (v ∷ [])) in
      fed_append (rw (set_at a o old v k e) at (attribute_fed n k v (a ++ o ∷ old) is (omega arith) r.0))
      (rw (append_snoc a v old, append_snoc a v l) at
      (attributes_fed (suc n) (suc k) (a ++ v ∷ []) l old (omega arith) more (omega arith) (omega arith) r.1))

-- ---- texts

gathered_length : (n : ℕ) (l g : List ℕ) → length (gathered_by n l g) ≡ length g
unfolding gathered_by
gathered_length n [] g = refl
gathered_length n (b ∷ l) g = gathered_length (n + 1) l (set g n b) ∙ length-set g n b

end_low : (x : Slot) → slot_end x < 128
unfolding slot_end
end_low (Slot.Key v) = omega arith
end_low (Slot.Label v) = omega arith
end_low Slot.Message = omega arith

most_fits : (x : Slot) → slot_most x ≤ 46
unfolding slot_most
most_fits (Slot.Key v) = omega arith
most_fits (Slot.Label v) = omega arith
most_fits Slot.Message = omega arith

module _ (m : Personality) (i : ℕ) (u : Setup) (p : List ℕ) (x : Slot) where
  letters_fed : (n : ℕ) (l g : List ℕ) {bs : List ℕ} {z : State} → n + length l ≤ slot_most x → all_text (slot_low x) l ≡ true
      → Fed p bs (state_at m i (Pending.Text x (n + length l)) (gathered_by n l g) u) z → Fed p (l ++ bs) (state_at m i (Pending.Text x n) g u) z
  unfolding all_text gathered_by
  letters_fed n [] g h e f = rw add-zero at f
  letters_fed n (b ∷ l) g {bs} {z} h e f =
      let r = both_parts (is_text (slot_low x) b) (all_text (slot_low x) l) e in
      let t = text_byte x b r.0 in
      let k : n + suc (length l) ≡ n + 1 + length l = omega arith in
      let w : decode_rule (Pending.Text x n) b ≡ Decoded.Gather x n b =
      unfold decode_rule text_rule in rw (t.1, lt-ltb n (slot_most x) (omega arith), r.0) in
      gathers m b t.0 w (letters_fed (n + 1) l (set g n b) (omega arith) r.1 (rw k at f))

  -- a text and its end
  pub text_fed : (l g : List ℕ) → length g ≡ 46 → length l ≤ slot_most x → all_text (slot_low x) l ≡ true
      → Fed p (l ++ slot_end x ∷ []) (state_at m i (Pending.Text x 0) g u) (state_at m i Pending.Idle (gathered_by 0 l g) (stored x l u))
  text_fed l g size h e =
      let w : decode_rule (Pending.Text x (length l)) (slot_end x) ≡ Decoded.Take x (length l) =
      unfold decode_rule text_rule in rw (eq-eqb (slot_end x) (slot_end x) refl) in
      let k : 0 + length l ≡ length l = omega arith in
      let t : take (length l) (gathered_by 0 l g) ≡ l = rw k at (gathered_text 0 l g (omega (arith, most_fits x))) in
      let y : Fed p (slot_end x ∷ []) (state_at m i (Pending.Text x (length l)) (gathered_by 0 l g) u)
      (state_at m i Pending.Idle (gathered_by 0 l g) (stored x (take (length l) (gathered_by 0 l g)) u)) = takes m (slot_end x) (end_low x) w in
      letters_fed 0 l g (omega arith) e (rw k (rw t at y))

-- ---- keys and labels

-- the value of a key or a label is below 80h, and no value is both
value_below : (first last from to v : ℕ) → either (between first last v) (between from to v) ≡ true → last < 128 → to < 128 → v < 128
value_below first last from to v e h k = by (between first last v) refl e
  where
    by : (s : Bool) → between first last v ≡ s → either s (between from to v) ≡ true → v < 128
    by true a e = omega (arith, between_parts first last v a)
    by false a e = omega (arith, between_parts from to v e)

-- the values of places
pub record KeyAt (n v : ℕ) : Type 0 where
  pub low : v < 128
  pub key : is_key v ≡ true
  pub place : key_place v ≡ n

pub record LabelAt (n v : ℕ) : Type 0 where
  pub low : v < 128
  pub key : is_key v ≡ false
  pub label : is_label v ≡ true
  pub place : label_place v ≡ n

pub key_at_lem : (n : ℕ) → n < 32 → KeyAt n (key_value n)
unfolding is_key key_value
key_at_lem n h = pick_if (KeyAt n) (ltb n 16) (λ e. first (ltb-true n 16 e)) (λ e. second (ltb-false n 16 e))
  where
    first : n < 16 → KeyAt n (0x40 + n)
    first k =
        let t : between 0x40 0x4f (0x40 + n) ≡ true = both_true (le-leb 0x40 (0x40 + n) (omega arith)) (lt-ltb (0x40 + n) 0x50 (omega arith)) in
        let e : 0x40 + n - 0x40 ≡ n = omega arith in
        record { low = omega arith; key = rw t; place = rw (lt-ltb (0x40 + n) 0x60 (omega arith), e) }

    second : 16 ≤ n → KeyAt n (0x50 + n)
    second k =
        let t : between 0x60 0x6f (0x50 + n) ≡ true = both_true (le-leb 0x60 (0x50 + n) (omega arith)) (lt-ltb (0x50 + n) 0x70 (omega arith)) in
        let e : 0x50 + n - 0x50 ≡ n = omega arith in
        record {
          low = omega arith;
          key = rw (between_beyond 0x40 0x4f (0x50 + n) (omega arith), t);
          place = rw
              (le-ltb (0x50 + n) 0x60 (omega arith), e);
        }

-- a value below all of a range
pub label_at : (n : ℕ) → n < 16 → LabelAt n (label_value n)
unfolding is_key is_label label_value
label_at n h = pick_if (LabelAt n) (ltb n 8) (λ e. first (ltb-true n 8 e)) (λ e. second (ltb-false n 8 e))
  where
    first : n < 8 → LabelAt n (0x30 + n)
    first k =
        let t : between 0x30 0x37 (0x30 + n) ≡ true = both_true (le-leb 0x30 (0x30 + n) (omega arith)) (lt-ltb (0x30 + n) 0x38 (omega arith)) in
        let e : 0x30 + n - 0x30 ≡ n = omega arith in
        record {
          low = omega arith;
          key = rw (between_below 0x40 0x4f (0x30 + n) (omega arith), between_below 0x60 0x6f (0x30 + n) (omega arith));
          label = rw t;
          place = rw (lt-ltb (0x30 + n) 0x50 (omega arith), e);
        }

    second : 8 ≤ n → LabelAt n (0x48 + n)
    second k =
        let t : between 0x50 0x57 (0x48 + n) ≡ true = both_true (le-leb 0x50 (0x48 + n) (omega arith)) (lt-ltb (0x48 + n) 0x58 (omega arith)) in
        let e : 0x48 + n - 0x48 ≡ n = omega arith in
        record {
          low = omega arith;
          key = rw (between_beyond 0x40 0x4f (0x48 + n) (omega arith), between_below 0x60 0x6f (0x48 + n) (omega arith));
          label = rw (between_beyond 0x30 0x37 (0x48 + n) (omega arith), t);
          place = rw (le-ltb (0x48 + n) 0x50 (omega arith), e);
        }

-- a text with zeros behind it, and the bytes gathered after texts
abbrev pub clean : Text 8 → Text 8
clean t = short_text (short_bytes t)

unfoldable pub gathered_texts : List (Text 8) → List ℕ → List ℕ
gathered_texts [] g = g
gathered_texts (t ∷ l) g = gathered_texts l (gathered_by 0 (short_bytes t) g)

-- the shifted line after labels, the first of them at place n
unfoldable pub shifted_by : ℕ → List (Text 8) → Bool → Bool
shifted_by n [] s = s
shifted_by n (t ∷ l) s = shifted_by (suc n) l (either (both (leb 0x50 (label_value n)) (ltb 0 (length (short_bytes t)))) s)

module _ (m : Personality) (i : ℕ) (u : Setup) (p : List ℕ) where
  key_fed : (n : ℕ) (t : Text 8) (l : List (Text 8)) (g : List ℕ) → n < 32 → length g ≡ 46 → text_ok 0 8 t.len t.bytes ≡ true
      → Fed p (text_bytes 0x7f (key_value n) t) (state_at m i Pending.Idle g (with_keys u l))
      (state_at m i Pending.Idle (gathered_by 0 (short_bytes t) g) (with_keys u (set l n (clean t))))
  unfolding text_bytes decode_rule idle_rule escape_rule argument_rule lookup slot_rule stored slot_end slot_most slot_low
  key_fed n t l g h size ok =
      let r = text_parts 0 8 t.len t.bytes ok in
      let k = key_at_lem n h in
      let d : decode_rule (Pending.Awaits Argument.Slot) (key_value n) ≡ Decoded.Wait (Pending.Text (Slot.Key (key_value n)) 0) = rw k.key in
      let y : Fed p (short_bytes t ++ 0x7f ∷ []) (state_at m i (Pending.Text (Slot.Key (key_value n)) 0) g (with_keys u l))
      (state_at m i Pending.Idle (gathered_by 0 (short_bytes t) g) (with_keys u (set l (key_place (key_value n)) (clean t)))) =
      text_fed m i (with_keys u l) p (Slot.Key (key_value n)) (short_bytes t) g size (omega (arith, r.0, length-take t.len t.bytes)) r.1 in
      waits m 0x1b (lit< tt) refl (waits m 0x7a (lit< tt) refl (waits m (key_value n) k.low d (rw k.place at y)))

  pub keys_fed : (n : ℕ) (a l old : List (Text 8)) (g : List ℕ) → length a ≡ n → length old ≡ length l → n + length l ≤ 32 → length g ≡ 46
      → texts_ok 0 l ≡ true
      → Fed p (keys_bytes n l) (state_at m i Pending.Idle g (with_keys u (a ++ old)))
      (state_at m i Pending.Idle (gathered_texts l g) (with_keys u (a ++ map clean l)))
  unfolding texts_bytes texts_ok gathered_texts
  keys_fed n a [] [] g e s f size h = none refl
  keys_fed n a [] (o ∷ old) g e s f size h = absurd (omega arith)
  keys_fed n a (t ∷ l) [] g e s f size h = absurd (omega arith)
  keys_fed n a (t ∷ l) (o ∷ old) g e s f size h =
      let r = both_parts (text_ok 0 8 t.len t.bytes) (texts_ok 0 l) h in
      let c = clean t in
      let more : length (a ++ c ∷ []) ≡ suc n = omega (arith, length-append a (c ∷ [])) in
      fed_append (rw (set_at a o old c n e) at (key_fed n t (a ++ o ∷ old) g (omega arith) size r.0))
      (rw (append_snoc a c old, append_snoc a c (map clean l)) at
      (keys_fed (suc n) (a ++ c ∷ []) l old (gathered_by 0 (short_bytes t) g) more (omega arith) (omega arith)
      (gathered_length 0 (short_bytes t) g ∙ size) r.1))

  label_fed : (n : ℕ) (t : Text 8) (l : List (Text 8)) (s : Bool) (g : List ℕ) → n < 16 → length g ≡ 46 → text_ok 0x20 8 t.len t.bytes ≡ true
      → Fed p (text_bytes 0x0d (label_value n) t) (state_at m i Pending.Idle g (with_labels u l s))
      (state_at m i Pending.Idle (gathered_by 0 (short_bytes t) g)
      (with_labels u (set l n (clean t)) (either (both (leb 0x50 (label_value n)) (ltb 0 (length (short_bytes t)))) s)))
  unfolding text_bytes decode_rule idle_rule escape_rule argument_rule lookup slot_rule stored slot_end slot_most slot_low
  label_fed n t l s g h size ok =
      let r = text_parts 0x20 8 t.len t.bytes ok in
      let k = label_at n h in
      let on = either (both (leb 0x50 (label_value n)) (ltb 0 (length (short_bytes t)))) s in
      let d : decode_rule (Pending.Awaits Argument.Slot) (label_value n)
      ≡ Decoded.Wait (Pending.Text (Slot.Label (label_value n)) 0) = rw (k.key, k.label) in
      let y : Fed p (short_bytes t ++ 0x0d ∷ []) (state_at m i (Pending.Text (Slot.Label (label_value n)) 0) g (with_labels u l s))
      (state_at m i Pending.Idle (gathered_by 0 (short_bytes t) g) (with_labels u (set l (label_place (label_value n)) (clean t)) on)) =
      text_fed m i (with_labels u l s) p (Slot.Label (label_value n)) (short_bytes t) g size (omega (arith, r.0, length-take t.len t.bytes))
      r.1 in
      waits m 0x1b (lit< tt) refl (waits m 0x7a (lit< tt) refl (waits m (label_value n) k.low d (rw k.place at y)))

  pub labels_fed : (n : ℕ) (a l old : List (Text 8)) (s : Bool) (g : List ℕ) → length a ≡ n → length old ≡ length l → n + length l ≤ 16
      → length g ≡ 46 → texts_ok 0x20 l ≡ true
      → Fed p (labels_bytes n l) (state_at m i Pending.Idle g (with_labels u (a ++ old) s))
      (state_at m i Pending.Idle (gathered_texts l g) (with_labels u (a ++ map clean l) (shifted_by n l s)))
  unfolding texts_bytes texts_ok gathered_texts shifted_by
  labels_fed n a [] [] s g e z f size h = none refl
  labels_fed n a [] (o ∷ old) s g e z f size h = absurd (omega arith)
  labels_fed n a (t ∷ l) [] s g e z f size h = absurd (omega arith)
  labels_fed n a (t ∷ l) (o ∷ old) s g e z f size h =
      let r = both_parts (text_ok 0x20 8 t.len t.bytes) (texts_ok 0x20 l) h in
      let c = clean t in
      let on = either (both (leb 0x50 (label_value n)) (ltb 0 (length (short_bytes t)))) s in
      let more : length (a ++ c ∷ []) ≡ suc n = omega (arith, length-append a (c ∷ [])) in
      fed_append (rw (set_at a o old c n e) at (label_fed n t (a ++ o ∷ old) s g (omega arith) size r.0))
      (rw (append_snoc a c old, append_snoc a c (map clean l)) at
      (labels_fed (suc n) (a ++ c ∷ []) l old on (gathered_by 0 (short_bytes t) g) more (omega arith) (omega arith)
      (gathered_length 0 (short_bytes t) g ∙ size) r.1))

texts_length : (l : List (Text 8)) (g : List ℕ) → length (gathered_texts l g) ≡ length g
unfolding gathered_texts
texts_length [] g = refl
texts_length (t ∷ l) g = texts_length l (gathered_by 0 (short_bytes t) g) ∙ gathered_length 0 (short_bytes t) g

-- ---- all of them, from power-on

-- a set-up that can be saved
pub record Fine (u : Setup) : Type 0 where
  pub shaped : Shaped u
  pub keys : texts_ok 0 u.keys ≡ true
  pub labels : texts_ok 0x20 u.labels ≡ true
  pub attributes : attributes_ok u.attributes ≡ true
  pub features : features_ok 0 u.features ≡ true

-- the set-up of a power-on terminal after the bytes: the settings, and the shifted line as the labels leave it
abbrev pub given : Personality → Setup → Setup
given m u =
    with_labels (with_keys (with_attributes (with_features (with_tabs (power_on m).setup (take 80 u.tabs ++ replicate 52 false)) u.features)
    u.attributes) (map clean u.keys)) (map clean u.labels) (shifted_by 0 u.labels false)

-- its cursor stands at the last stop, or home; nothing else has changed
abbrev pub given_state : Personality → Setup → State
given_state m u =
    state_at m (last_true 0 0 (take 80 u.tabs)) Pending.Idle (gathered_texts u.labels (gathered_texts u.keys (replicate 46 0))) (given m u)

pub setup_fed : (m : Personality) (p : List ℕ) (u : Setup) → length p ≡ 1920 → Fine u → Fed p (setup_bytes u) (power_on m) (given_state m u)
unfolding setup_bytes power_on
setup_fed m p u size h =
    let z = h.shaped in
    let stops : length (take 80 u.tabs) ≡ 80 = omega (arith, length-take 80 u.tabs, z.tabs) in
    let i = last_true 0 0 (take 80 u.tabs) in
    let g : List ℕ = replicate 46 0 in
    let u0 = (power_on m).setup in
    let u1 = with_tabs u0 (take 80 u.tabs ++ replicate 52 false) in
    let u2 = with_features u1 u.features in
    let u3 = with_attributes u2 u.attributes in
    let u4 = with_keys u3 (map clean u.keys) in
    let first = stops_fed m g u0 p size (replicate 52 false) 0 0 [] (take 80 u.tabs) refl (omega (arith, stops)) in
    fed_append (rw stops at first) (fed_append (features_fed m i g u1 p u.features 0x31 0x35 0x37 0x39 0x40 z.features h.features)
    (fed_append (attributes_fed m i g u2 p 0x30 0 [] u.attributes (replicate 4 0x30) (omega arith) refl (sym z.attributes)
    (omega (arith, z.attributes)) h.attributes)
    (fed_append (keys_fed m i u3 p 0 [] u.keys (replicate 32 no_text) g refl (sym z.keys) (omega (arith, z.keys)) refl h.keys)
    (labels_fed m i u4 p 0 [] u.labels (replicate 16 no_text) false (gathered_texts u.keys g) refl (sym z.labels) (omega (arith, z.labels))
    (texts_length u.keys g) h.labels))))
