-- Laws of bytes put one after the other.
--     put_copied, put_none, put_then     bytes copied; nothing; bytes after bytes
--     Putting     a loop that puts a piece for each element
-- Assumes nothing.
use mathlib.Core.Path.{◌≡◌, refl, sym, ap, ◌∙◌}
use mathlib.Core.Bool.{Bool, true, false}
use mathlib.Core.List.{List, [], ◌∷◌, ◌++◌, append-nil, append_assoc}
use Prim.Native.Nat.{ℕ, suc, ◌+◌, ◌*◌, ◌<◌, ◌≤◌}
use native.Mathlib.Numerals.{add-one}
use native.Mathlib.Omega.{arith}
use lib.ListN.{length, get_or, set, take, drop, drop_of_length-le, length-append}
use lib.Seq.{drop-cons, drop-drop, sets}
use borrow.Rule.Slice.PartMut.{put_mid}
use Rattle.std.proofs.lemmas.List.Edits.{sets-eq}
use borrow.Author.Tests.{lt-ltb, le-ltb}
use Rattle.rules.specs.declared.Setup.{Setup}
use Rattle.rules.specs.declared.Text.{Text}
use Rattle.rules.specs.Room.{over}
use Rattle.rules.specs.State.{short_bytes}
use Rattle.rules.specs.Slot.{texts_ok}
use Rattle.rules.proofs.Texts.{text_parts, texts_at, text_begun}
use Rattle.page.specs.Room.{stored}
use Rattle.page.proofs.Room.{stored_over}
use Rattle.saved.specs.SetupBytes.{stop_bytes, by_code, feature_bytes, attribute_bytes, text_bytes, texts_bytes, keys_bytes, labels_bytes, setup_bytes}
use Rattle.saved.specs.Put.{Put}
use Rattle.saved.proofs.Setups.{texts_most}

stored_append : (r s : List ℕ) (n : ℕ) (w : List ℕ) → stored n (r ++ s) w ≡ stored (n + length r) s (stored n r w)
unfolding stored
stored_append [] s n w = let e : n + 0 ≡ n = omega arith in rw e
stored_append (x ∷ r) s n w =
    let e : n + suc (length r) ≡ n + 1 + length r = omega arith in
    stored_append r s (n + 1) (set w n x) ∙ rw e

-- where nothing is left to put, the room is as it will be
unstored : {x r v : List ℕ} (n : ℕ) → x ≡ [] → stored n x r ≡ v → r ≡ v
unfolding stored
unstored {x} {r} {v} n e h = sym (ap (λ (t : List ℕ). stored n t r) e) ∙ h

stored_sets : (l : List ℕ) (n : ℕ) (w : List ℕ) → stored n l w ≡ sets w n l
unfolding stored
stored_sets [] n w = refl
stored_sets (x ∷ l) n w = stored_sets l (n + 1) (set w n x) ∙ rw (add-one n)

pub put_copied : (n k : ℕ) (l w : List ℕ) {v : List ℕ} → n + length l ≤ length w → v ≡ l → k ≡ length l → Put n l w (n + length l) (put_mid n k w v)
put_copied n k l w {v} h e f = record {
  place = refl;
  room = rw (e, f, drop-drop (length l) n w)
      (sym (append_assoc (take n w) l (drop (n + length l) w)) ∙ (sym (sets-eq l w n h) ∙ sym (stored_sets l n w)));
}

pub put_none : (n : ℕ) (w : List ℕ) → Put n [] w n w
unfolding stored
put_none n w = record { place = omega arith; room = refl }

pub put_then : {n r s : ℕ} {a b w v z : List ℕ} → Put n a w r v → Put r b v s z → Put n (a ++ b) w s z
put_then {n} {r} {s} {a} {b} {w} {v} {z} x y =
    record { place = omega (arith, x.place, y.place, length-append a b); room = y.room ∙ rw (x.place, x.room) (sym (stored_append a b n w)) }

-- the bytes put at the front, read back
pub front : {l w v : List ℕ} {n : ℕ} → Put 0 l w n v → length l ≤ length w → v ≡ l ++ drop (length l) w
unfolding over
front {l} {w} {v} {n} p h = p.room ∙ stored_over l w h

-- ---- a loop that puts a piece for each element: f puts them all, from the place k of the first

pub record Putting {A : Type 0} (f : ℕ → List A → List ℕ) (l : List A) (start : ℕ) (w₀ : List ℕ) (i n : ℕ) (w : List ℕ) : Type 0 where
  pub range : i ≤ length l
  pub long : length w ≡ length w₀
  pub count : n + length (f i (drop i l)) ≡ start + length (f 0 l)
  pub is : stored n (f i (drop i l)) w ≡ stored start (f 0 l) w₀

module _ {A : Type 0} (f : ℕ → List A → List ℕ) (piece : ℕ → A → List ℕ) (none : (k : ℕ) → f k [] ≡ [])
    (more : (k : ℕ) (x : A) (l : List A) → f k (x ∷ l) ≡ piece k x ++ f (suc k) l) where
  pub begin : (l : List A) (start : ℕ) (w : List ℕ) → Putting f l start w 0 start w
  begin l start w = record { range = omega arith; long = refl; count = refl; is = refl }

  module _ (d : A) {l : List A} {start : ℕ} {w₀ : List ℕ} {i n : ℕ} {w : List ℕ} (p : Putting f l start w₀ i n w) where
    next : i < length l → f i (drop i l) ≡ piece i (get_or l i d) ++ f (i + 1) (drop (i + 1) l)
    next h = rw (add-one i, drop-cons l i d h) (more i (get_or l i d) (drop (suc i) l))

    pub fits : i < length l → start + length (f 0 l) ≤ length w₀ → n + length (piece i (get_or l i d)) ≤ length w
    fits h k =
        omega (arith, p.long, p.count, ap length (next h), length-append (piece i (get_or l i d)) (f (i + 1) (drop (i + 1) l)))

    pub go : {r : ℕ} {v : List ℕ} → i < length l → Put n (piece i (get_or l i d)) w r v → length v ≡ length w → Putting f l start w₀ (i + 1) r v
    go {r} {v} h q e =
        let x = piece i (get_or l i d) in
        let y = f (i + 1) (drop (i + 1) l) in
        record {
          range = omega arith;
          long = e ∙ p.long;
          count = omega (arith, p.count, ap length (next h), length-append x y, q.place);
          is = rw (q.place, q.room) (sym (stored_append x y n w) ∙ ap (λ (z : List ℕ). stored n z w) (sym (next h)) ∙ p.is);
        }

    pub finish : length l ≤ i → Put start (f 0 l) w₀ n w
    finish h =
        let e : f i (drop i l) ≡ [] = ap (f i) (drop_of_length-le l h) ∙ none i in
        record { place = omega (arith, p.count, ap length e); room = unstored n e p.is }

-- ---- stops

pub stops_none : (k : ℕ) → stop_bytes k [] ≡ []
unfolding stop_bytes
stops_none k = refl

pub stops_more : (k : ℕ) (t : Bool) (l : List Bool) → stop_bytes k (t ∷ l) ≡ stop_bytes k (t ∷ []) ++ stop_bytes (suc k) l
unfolding stop_bytes
stops_more k t l = rw append-nil

pub stop_length : (k : ℕ) {t : Bool} → t ≡ true → length (stop_bytes k (t ∷ [])) ≡ 6
unfolding stop_bytes
stop_length k e = rw e

pub stop_put : (k : ℕ) {t : Bool} {n r : ℕ} {w v : List ℕ} → t ≡ true
    → Put n (0x1b ∷ 0x3d ∷ 0x20 ∷ (0x20 + k) ∷ 0x1b ∷ 0x31 ∷ []) w r v → Put n (stop_bytes k (t ∷ [])) w r v
unfolding stop_bytes
stop_put k e p = rw e p

pub stop_none : (k n : ℕ) (w : List ℕ) {t : Bool} → t ≡ false → Put n (stop_bytes k (t ∷ [])) w n w
unfolding stop_bytes
stop_none k n w e = rw e (put_none n w)

-- the loop goes over the first 80
abbrev pub stop_piece : ℕ → Bool → List ℕ
stop_piece k t = stop_bytes k (t ∷ [])

-- ---- texts

pub text_put : (end v : ℕ) (t : Text 8) {n a b r : ℕ} {w w1 w2 w3 l : List ℕ} → l ≡ short_bytes t → Put n (0x1b ∷ 0x7a ∷ v ∷ []) w a w1
    → Put a l w1 b w2 → Put b (end ∷ []) w2 r w3 → Put n (text_bytes end v t) w r w3
unfolding text_bytes
text_put end v t e p q s = rw (← e) (put_then p (put_then q s))

module _ (low end : ℕ) (value : ℕ → ℕ) where
  texts_none : (k : ℕ) → texts_bytes end value k [] ≡ []
  unfolding texts_bytes
  texts_none k = refl

  texts_more : (k : ℕ) (t : Text 8) (l : List (Text 8))
      → texts_bytes end value k (t ∷ l) ≡ text_bytes end (value k) t ++ texts_bytes end value (suc k) l
  unfolding texts_bytes
  texts_more k t l = refl

  abbrev pub Texting : List (Text 8) → ℕ → List ℕ → ℕ → ℕ → List ℕ → Type 0
  Texting l start w₀ i n w = Putting (texts_bytes end value) l start w₀ i n w

  abbrev none_there : Text 8
  none_there = record { len = 0; bytes = [] }

  pub text_begin : (l : List (Text 8)) (start : ℕ) (w : List ℕ) → Texting l start w 0 start w
  text_begin l start w = begin (texts_bytes end value) (λ k t. text_bytes end (value k) t) texts_none texts_more l start w

  pub text_few : (l : List (Text 8)) (i : ℕ) → texts_ok low l ≡ true → (get_or l i none_there).len ≤ 8
  text_few l i e = (text_parts low 8 _ _ (texts_at low l i none_there e (text_begun low 8 []))).0

  module _ {l : List (Text 8)} {start : ℕ} {w₀ : List ℕ} {i n : ℕ} {w : List ℕ} (p : Texting l start w₀ i n w) where
    pub text_fits : {v : ℕ} → v ≡ value i → texts_ok low l ≡ true → i < length l → start + 12 * length l ≤ length w₀
        → n + length (text_bytes end v (get_or l i none_there)) ≤ length w
    text_fits {v} e ok h k =
        let z : start + length (texts_bytes end value 0 l) ≤ length w₀ = omega (arith, texts_most low end value 0 l ok) in
        rw e (fits (texts_bytes end value) (λ k t. text_bytes end (value k) t) texts_none texts_more none_there p h z)

    pub text_go : {v r : ℕ} {z : List ℕ} → v ≡ value i → i < length l → Put n (text_bytes end v (get_or l i none_there)) w r z → length z ≡ length w
        → Texting l start w₀ (i + 1) r z
    text_go {v} {r} {z} e h q s =
        let y : Put n (text_bytes end (value i) (get_or l i none_there)) w r z = rw (← e) q in
        go (texts_bytes end value) (λ k t. text_bytes end (value k) t) texts_none texts_more none_there p h y s

    pub text_finish : texts_ok low l ≡ true → length l ≤ i → Put start (texts_bytes end value 0 l) w₀ n w × (n ≤ start + 12 * length l)
    text_finish ok h =
        let y = finish (texts_bytes end value) (λ k t. text_bytes end (value k) t) texts_none texts_more none_there p h in
        (y, omega (arith, y.place, texts_most low end value 0 l ok))

-- ---- features and field attributes

pub features_put : (l : List ℕ) {n m r : ℕ} {w v z : List ℕ} (a b c : ℕ) → Put n (0x1b ∷ 0x60 ∷ get_or l 0 0 ∷ 0x1b ∷ 0x60 ∷ get_or l 1 0 ∷ []) w m v
    → by_code l ≡ get_or l 0 0 ∷ get_or l 1 0 ∷ a ∷ b ∷ c ∷ [] → Put m (feature_bytes (a ∷ b ∷ c ∷ [])) v r z → Put n (feature_bytes (by_code l)) w r z
unfolding feature_bytes
features_put l a b c p e q = rw e (put_then p q)

pub by_code_low : (l : List ℕ) → get_or l 2 0 < 0x41 → by_code l ≡ get_or l 0 0 ∷ get_or l 1 0 ∷ get_or l 2 0 ∷ get_or l 3 0 ∷ get_or l 4 0 ∷ []
unfolding by_code
by_code_low l h = rw (lt-ltb (get_or l 2 0) 0x41 h)

pub by_code_high : (l : List ℕ) → 0x41 ≤ get_or l 2 0 → by_code l ≡ get_or l 0 0 ∷ get_or l 1 0 ∷ get_or l 3 0 ∷ get_or l 4 0 ∷ get_or l 2 0 ∷ []
unfolding by_code
by_code_high l h = rw (le-ltb (get_or l 2 0) 0x41 h)

pub attributes_put : (l : List ℕ) {n m r : ℕ} {w v z : List ℕ} → length l ≡ 4
    → Put n (0x1b ∷ 0x41 ∷ 0x30 ∷ get_or l 0 0 ∷ 0x1b ∷ 0x41 ∷ 0x31 ∷ get_or l 1 0 ∷ []) w m v
    → Put m (0x1b ∷ 0x41 ∷ 0x32 ∷ get_or l 2 0 ∷ 0x1b ∷ 0x41 ∷ 0x33 ∷ get_or l 3 0 ∷ []) v r z → Put n (attribute_bytes 0x30 l) w r z
unfolding attribute_bytes
attributes_put [] e p q = absurd (omega arith)
attributes_put (a ∷ []) e p q = absurd (omega arith)
attributes_put (a ∷ b ∷ []) e p q = absurd (omega arith)
attributes_put (a ∷ b ∷ c ∷ []) e p q = absurd (omega arith)
attributes_put (a ∷ b ∷ c ∷ d ∷ []) e p q = put_then p q
attributes_put (a ∷ b ∷ c ∷ d ∷ f ∷ l) e p q = absurd (omega arith)

-- ---- the whole

pub setup_put : (u : Setup) {a b c d r : ℕ} {w w1 w2 w3 w4 z : List ℕ} → Put 0 (stop_bytes 0 (take 80 u.tabs)) w a w1
    → Put a (feature_bytes (by_code u.features)) w1 b w2 → Put b (attribute_bytes 0x30 u.attributes) w2 c w3
    → Put c (keys_bytes 0 u.keys) w3 d w4 → Put d (labels_bytes 0 u.labels) w4 r z → Put 0 (setup_bytes u) w r z
unfolding setup_bytes
setup_put u p q s t v = put_then p (put_then q (put_then s (put_then t v)))
