-- What the bytes of a set-up are, and which bytes are those of one.
--     setup_given, setup_clean     fed to power-on they give the settings, and these have the same bytes
--     setup_short                  at most 1,087
--     fed_fine                     whatever bytes are fed to power-on, they leave a set-up that can be saved
--     saved_is, is_saved           the test decides
-- Assumes nothing.
use mathlib.Core.Path.{◌≡◌, refl, sym, ap, ap₂, ◌∙◌}
use mathlib.Core.Bool.{Bool, true, false}
use mathlib.Core.List.{List, [], ◌∷◌, ◌++◌, map}
use Prim.Native.Nat.{ℕ, suc, ◌+◌, ◌-◌, ◌*◌, ◌≤◌}
use native.Mathlib.Omega.{arith}
use lib.Dec.{ltb, eqb}
use lib.Seq.{take_at}
use lib.ListN.{length, get_or, take, replicate, length-set, length-append, length-take}
use Rattle.rules.specs.declared.State.{State}
use Rattle.rules.specs.declared.Setup.{Setup}
use Rattle.rules.specs.declared.Text.{Text}
use Rattle.rules.specs.declared.Personality.{Personality}
use Rattle.rules.specs.declared.Slot.{Slot}
use Rattle.rules.specs.declared.SetupChange.{SetupChange}
use Rattle.rules.specs.declared.Change.{Change}
use Rattle.rules.specs.Row.{columns}
use Rattle.rules.specs.State.{short_bytes, changed, stored, sends, setup_after}
use Rattle.rules.specs.Slot.{text_ok, texts_ok}
use Rattle.rules.specs.Possible.{power_on, blank, possible, good}
use Rattle.rules.specs.Step.{Outcome, inner_rule, goes_on, step_inside, step_rule}
use Rattle.rules.specs.Calls.{Ran, joined, repeated, run_rule}
use Rattle.rules.proofs.Tests.{pick_if, both_parts}
use Rattle.rules.proofs.Texts.{text_of, text_parts}
use Rattle.rules.proofs.RowSteps.{same_is, same_refl}
use Rattle.rules.proofs.Kept.{possible_parts, good_whole, run_keeps, power_on_possible}
use Rattle.saved.specs.SetupBytes.{stop_bytes, by_code, feature_bytes, attribute_bytes, text_bytes, texts_bytes, key_value, label_value, keys_bytes}
use Rattle.saved.specs.SetupBytes.{labels_bytes, setup_bytes}
use Rattle.saved.specs.Settings.{SameSettings, fed, Shaped, Saved}
use Rattle.saved.specs.Store.{is_setup}
use Rattle.saved.proofs.Feed.{took, fed_run}
use Rattle.saved.proofs.SetupFed.{clean, Fine, given, given_state, setup_fed}

-- ---- the settings given

-- zeros behind a text are no part of its bytes
clean_bytes : (low : ℕ) (t : Text 8) → text_ok low 8 t.len t.bytes ≡ true → short_bytes (clean t) ≡ short_bytes t
clean_bytes low t e = text_of 8 (short_bytes t) (omega (arith, (text_parts low 8 t.len t.bytes e).0, length-take t.len t.bytes))

texts_clean : (low end : ℕ) (value : ℕ → ℕ) (n : ℕ) (l : List (Text 8)) → texts_ok low l ≡ true
    → texts_bytes end value n (map clean l) ≡ texts_bytes end value n l
unfolding texts_ok texts_bytes text_bytes
texts_clean low end value n [] e = refl
texts_clean low end value n (t ∷ l) e =
    let r = both_parts (text_ok low 8 t.len t.bytes) (texts_ok low l) e in
    rw (clean_bytes low t r.0, texts_clean low end value (suc n) l r.1)

bytes_clean : (low : ℕ) (l : List (Text 8)) → texts_ok low l ≡ true → map short_bytes (map clean l) ≡ map short_bytes l
unfolding texts_ok
bytes_clean low [] e = refl
bytes_clean low (t ∷ l) e =
    let r = both_parts (text_ok low 8 t.len t.bytes) (texts_ok low l) e in
    ap₂ {C = List (List ℕ)} (λ x y. x ∷ y) (clean_bytes low t r.0) (bytes_clean low l r.1)

stops_given : (l : List Bool) → length l ≡ 132 → take 80 (take 80 l ++ replicate 52 false) ≡ take 80 l
stops_given l e = take_at (take 80 l) (replicate 52 false) 80 (omega (arith, length-take 80 l))

pub setup_clean : (m : Personality) (u : Setup) → Fine u → setup_bytes (given m u) ≡ setup_bytes u
unfolding setup_bytes
setup_clean m u h =
    rw (
      stops_given u.tabs h.shaped.tabs,
      texts_clean 0 0x7f key_value 0 u.keys h.keys,
      texts_clean 0x20 0x0d label_value 0 u.labels
          h.labels,
    )

pub setup_same : (m : Personality) (u : Setup) → Fine u → SameSettings (given m u) u
setup_same m u h = record {
  stops = stops_given u.tabs h.shaped.tabs;
  features = refl;
  attributes = refl;
  keys = bytes_clean 0 u.keys h.keys;
  labels = bytes_clean 0x20 u.labels h.labels;
}

power_good : (m : Personality) → good blank (power_on m) ≡ true
unfolding blank power_on columns
power_good m = good_whole blank (power_on m) refl (power_on_possible m)

blank_length : length blank ≡ 1920
unfolding blank
blank_length = refl

-- fed to power-on: each byte answers 0, none replies, and the page stays
pub setup_given : (m : Personality) (u : Setup) (room : ℕ) → Fine u
    → run_rule blank (power_on m) (setup_bytes u) room ≡ took (length (setup_bytes u)) blank (given_state m u)
setup_given m u room h = fed_run room (power_good m) (setup_fed m blank u blank_length h)

pub fed_given : (m : Personality) (u : Setup) → Fine u → fed m (setup_bytes u) ≡ given m u
unfolding fed
fed_given m u h = ap (λ (r : Ran). r.state.setup) (setup_given m u 0 h)

-- ---- lengths

stops_short : (n : ℕ) (l : List Bool) → length (stop_bytes n l) ≤ 6 * length l
unfolding stop_bytes
stops_short n [] = omega arith
stops_short n (true ∷ l) = omega (arith, stops_short (suc n) l)
stops_short n (false ∷ l) = omega (arith, stops_short (suc n) l)

-- of columns 1 to 80
pub stops_most : (l : List Bool) → length (stop_bytes 0 (take 80 l)) ≤ 480
stops_most l = omega (arith, stops_short 0 (take 80 l), length-take 80 l)

pub features_size : (l : List ℕ) → length (feature_bytes (by_code l)) ≡ 15
unfolding feature_bytes by_code
features_size l =
    pick_if (λ (r : List ℕ). length (feature_bytes (get_or l 0 0 ∷ get_or l 1 0 ∷ r)) ≡ 15) (ltb (get_or l 2 0) 0x41) (λ e. refl) (λ e. refl)

pub attributes_size : (n : ℕ) (l : List ℕ) → length (attribute_bytes n l) ≡ 4 * length l
unfolding attribute_bytes
attributes_size n [] = refl
attributes_size n (a ∷ l) = omega (arith, attributes_size (suc n) l)

pub text_size : (end v : ℕ) (t : Text 8) → length (text_bytes end v t) ≡ 4 + length (short_bytes t)
unfolding text_bytes
text_size end v t = omega (arith, length-append (short_bytes t) (end ∷ []))

pub text_most : (low end v : ℕ) (t : Text 8) → text_ok low 8 t.len t.bytes ≡ true → length (text_bytes end v t) ≤ 12
text_most low end v t e = omega (arith, text_size end v t, (text_parts low 8 t.len t.bytes e).0, length-take t.len t.bytes)

pub texts_most : (low end : ℕ) (value : ℕ → ℕ) (n : ℕ) (l : List (Text 8)) → texts_ok low l ≡ true → length (texts_bytes end value n l) ≤ 12 * length l
unfolding texts_ok texts_bytes
texts_most low end value n [] e = omega arith
texts_most low end value n (t ∷ l) e =
    let r = both_parts (text_ok low 8 t.len t.bytes) (texts_ok low l) e in
    omega (
      arith,
      length-append (text_bytes end (value n) t) (texts_bytes end value (suc n) l),
      text_most low end (value n) t r.0,
      texts_most low end value (suc n) l r.1,
    )

pub setup_short : (u : Setup) → Fine u → length (setup_bytes u) ≤ 1087
unfolding setup_bytes
setup_short u h =
    let a = stop_bytes 0 (take 80 u.tabs) in
    let b = feature_bytes (by_code u.features) in
    let c = attribute_bytes 0x30 u.attributes in
    let d = keys_bytes 0 u.keys in
    let e = labels_bytes 0 u.labels in
    let s = h.shaped in
    omega (
      arith,
      length-append a (b ++ (c ++ (d ++ e))),
      length-append b (c ++ (d ++ e)),
      length-append c (d ++ e),
      length-append d e,
      stops_most u.tabs,
      features_size u.features,
      attributes_size 0x30 u.attributes,
      texts_most 0 0x7f key_value 0 u.keys h.keys,
      texts_most 0x20 0x0d label_value 0 u.labels h.labels,
      s.attributes,
      s.keys,
      s.labels,
    )

-- ---- whatever bytes are fed

changed_shaped : (x : SetupChange) (u : Setup) → Shaped u → Shaped (changed x u)
unfolding changed
changed_shaped SetupChange.Nothing u h = h
changed_shaped (SetupChange.Tab c b) u h =
    record { tabs = length-set u.tabs c b ∙ h.tabs; attributes = h.attributes; features = h.features; keys = h.keys; labels = h.labels }
changed_shaped SetupChange.ClearTabs u h =
    record { tabs = refl; attributes = h.attributes; features = h.features; keys = h.keys; labels = h.labels }
changed_shaped (SetupChange.Attribute n a) u h =
    record { tabs = h.tabs; attributes = length-set u.attributes n a ∙ h.attributes; features = h.features; keys = h.keys; labels = h.labels }
changed_shaped (SetupChange.Feature n f) u h =
    record { tabs = h.tabs; attributes = h.attributes; features = length-set u.features n f ∙ h.features; keys = h.keys; labels = h.labels }
changed_shaped SetupChange.HideLine u h =
    record { tabs = h.tabs; attributes = h.attributes; features = h.features; keys = h.keys; labels = h.labels }
changed_shaped (SetupChange.Wish b) u h =
    record { tabs = h.tabs; attributes = h.attributes; features = h.features; keys = h.keys; labels = h.labels }

stored_shaped : (x : Slot) (l : List ℕ) (u : Setup) → Shaped u → Shaped (stored x l u)
unfolding stored
stored_shaped (Slot.Key v) l u h =
    record { tabs = h.tabs; attributes = h.attributes; features = h.features; keys = length-set u.keys _ _ ∙ h.keys; labels = h.labels }
stored_shaped (Slot.Label v) l u h =
    record { tabs = h.tabs; attributes = h.attributes; features = h.features; keys = h.keys; labels = length-set u.labels _ _ ∙ h.labels }
stored_shaped Slot.Message l u h =
    record { tabs = h.tabs; attributes = h.attributes; features = h.features; keys = h.keys; labels = h.labels }

after_shaped : (x : Change) (g : List ℕ) (u : Setup) → Shaped u → Shaped (setup_after x g u)
unfolding setup_after
after_shaped (Change.Gather n b) g u h = h
after_shaped (Change.Take x n) g u h = stored_shaped x (take n g) u h
after_shaped (Change.Set x) g u h = changed_shaped x u h
after_shaped (Change.Send x) g u h = h

step_shaped : (p : List ℕ) (s : State) (b room : ℕ) → Shaped s.setup → Shaped (step_rule p s b room).state.setup
unfolding step_rule step_inside goes_on
step_shaped p s b room h =
    let Q : Outcome → Type 0 = λ o. Shaped o.state.setup in
    pick_if Q (good p s)
    (λ e. pick_if Q (sends s.sending) (λ u. pick_if Q (eqb room 0) (λ z. h) (λ z. h))
    (λ u. after_shaped (inner_rule p s.core s.setup.tabs b room).change s.gathered s.setup h)) (λ e. h)

repeated_shaped : (bytes p : List ℕ) (s : State) (room : ℕ) → Shaped s.setup → Shaped (repeated bytes p s room).state.setup
unfolding repeated joined
repeated_shaped [] p s room h = h
repeated_shaped (b ∷ bytes) p s room h =
    let o = step_rule p s b room in
    let Q : Ran → Type 0 = λ r. Shaped r.state.setup in
    pick_if Q (sends s.sending) (λ u. h) (λ u. pick_if Q (eqb o.answer 6) (λ e. h)
    (λ e. repeated_shaped bytes o.page o.state (room - length o.reply) (step_shaped p s b room h)))

power_shaped : (m : Personality) → Shaped (power_on m).setup
unfolding power_on
power_shaped m = record { tabs = refl; attributes = refl; features = refl; keys = refl; labels = refl }

-- the state after the bytes
abbrev fed_state : Personality → List ℕ → State
fed_state m bytes = (run_rule blank (power_on m) bytes 0).state

fed_shaped : (m : Personality) (bytes : List ℕ) → Shaped (fed_state m bytes).setup
unfolding run_rule power_on
fed_shaped m bytes =
    pick_if (λ (r : Ran). Shaped r.state.setup) (good blank (power_on m)) (λ e. repeated_shaped bytes blank (power_on m) 0 (power_shaped m))
    (λ e. power_shaped m)

fed_possible : (m : Personality) (bytes : List ℕ) → possible (fed_state m bytes) ≡ true
fed_possible m bytes = (run_keeps blank (power_on m) bytes 0).state (power_on_possible m)

-- a possible state's set-up can be saved
pub possible_fine : (s : State) → Shaped s.setup → possible s ≡ true → Fine s.setup
possible_fine s z h =
    let k = (possible_parts s h).setup in
    record { shaped = z; keys = k.keys; labels = k.labels; attributes = k.attributes; features = k.features }

pub fed_fine : (m : Personality) (bytes : List ℕ) → Fine (fed m bytes)
unfolding fed
fed_fine m bytes = possible_fine (fed_state m bytes) (fed_shaped m bytes) (fed_possible m bytes)

-- ---- the test

pub fine_is : (u : Setup) → Fine u → is_setup (setup_bytes u) ≡ true
unfolding is_setup
fine_is u h =
    let e : setup_bytes (fed Personality.Wy50 (setup_bytes u)) ≡ setup_bytes u = ap setup_bytes (fed_given Personality.Wy50 u h)
    ∙ setup_clean Personality.Wy50 u h in
    rw e (same_refl (setup_bytes u))

pub saved_is : (bytes : List ℕ) → Saved bytes → is_setup bytes ≡ true
saved_is bytes v = rw v.bytes_of at (fine_is v.state.setup (possible_fine v.state v.shaped v.possible))

pub is_saved : (bytes : List ℕ) → is_setup bytes ≡ true → Saved bytes
unfolding is_setup fed
is_saved bytes e = record {
  state = fed_state Personality.Wy50 bytes;
  shaped = fed_shaped Personality.Wy50 bytes;
  possible = fed_possible Personality.Wy50 bytes;
  bytes_of = sym (same_is bytes _ e);
}
