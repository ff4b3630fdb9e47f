-- Laws of hexadecimal digits, and of the loop that reads a byte string. Assumes nothing.
use Rattle.std.proofs.Common.{◌≡◌, ℕ, suc, ◌+◌, ◌*◌, ◌/◌, ◌%◌, ◌<◌, ◌≤◌, Bool, true, false, ltb, leb, Option, Some, None, List, [], ◌∷◌, ◌++◌, length, get_or, take, drop, set, sym, refl, ap, ◌∙◌, append_assoc, append-nil, add-one, arith, rules, length-set, drop_of_length-le, drop-cons, take-suc-set, le-ltb, lt-ltb, ne_eqb, le-leb}
use borrow.Author.Tests.{lt-leb}
use Rattle.rules.specs.Cell.{both}
use Rattle.replay_text.specs.Text.{below, hex_byte, byte_of, is_hex, hex_bytes, is_string, Put}
use Rattle.replay_text.proofs.Numbers.{both_false, below_none, below_some}

-- a word of two digits
pub word_few : (w : List ℕ) → length w < 2 → None ≡ byte_of w
unfolding byte_of
word_few [] h = refl
word_few (a ∷ []) h = refl
word_few (a ∷ b ∷ w) h = let z : ⊥ = omega arith in absurd z

pub word_many : (w : List ℕ) → 3 ≤ length w → None ≡ byte_of w
unfolding byte_of
word_many [] h = refl
word_many (a ∷ []) h = refl
word_many (a ∷ b ∷ []) h = let z : ⊥ = omega arith in absurd z
word_many (a ∷ b ∷ c ∷ w) h = refl

pub word_two : (w : List ℕ) {r : Option ℕ} → length w ≡ 2 → r ≡ below 256 (hex_byte (get_or w 0 0) (get_or w 1 0)) → r ≡ byte_of w
unfolding byte_of
word_two [] h e = let z : ⊥ = omega arith in absurd z
word_two (a ∷ []) h e = let z : ⊥ = omega arith in absurd z
word_two (a ∷ b ∷ []) h e = e
word_two (a ∷ b ∷ c ∷ w) h e = let z : ⊥ = omega arith in absurd z

-- how many bytes digits spell; an odd count of digits spells none
pub length_bytes : (w : List ℕ) → length (hex_bytes w) ≡ length w / 2
unfolding hex_bytes
length_bytes [] = refl
length_bytes (h ∷ []) = refl
length_bytes (h ∷ l ∷ w) = omega (arith, length_bytes w)

pub odd_digits : (w : List ℕ) → length w % 2 ≡ 1 → is_hex w ≡ false
unfolding is_hex
odd_digits [] e = let z : ⊥ = omega arith in absurd z
odd_digits (h ∷ []) e = refl
odd_digits (h ∷ l ∷ w) e = ap (both (ltb (hex_byte h l) 256)) (odd_digits w (omega arith)) ∙ both_false (ltb (hex_byte h l) 256)

-- nothing is put
pub put_none : {t : Bool} {l old new : List ℕ} → both t (leb (length l) (length old)) ≡ false → Put t l None old new
put_none e = record { count = rw e; front = λ n k. absurd (search rules) }

pub put_odd : (w old : List ℕ) {new : List ℕ} → length w % 2 ≡ 1 → Put (is_hex w) (hex_bytes w) None old new
put_odd w old h = put_none (rw (odd_digits w h))

pub put_small : (w old : List ℕ) {new : List ℕ} → length old < length w / 2 → Put (is_hex w) (hex_bytes w) None old new
put_small w old h =
    put_none (ap (both (is_hex w)) (lt-leb (length (hex_bytes w)) (length old) (omega (arith, length_bytes w))) ∙ both_false (is_hex w))

-- n bytes of the room are right
pub record Putting (w old new : List ℕ) (n : ℕ) : Type 0 where
  pub within : n ≤ length w / 2
  pub size : length new ≡ length old
  pub good : is_hex w ≡ is_hex (drop (2 * n) w)
  pub bytes : hex_bytes w ≡ take n new ++ hex_bytes (drop (2 * n) w)

pub put_start : (w old : List ℕ) → Putting w old old 0
put_start w old = record { within = omega arith; size = refl; good = refl; bytes = refl }

module _ {w old new : List ℕ} {n : ℕ} (v : Putting w old new n) where
  pub put_end : (length w % 2 ≡ 1 → ⊥) → length w / 2 ≤ length old → length w / 2 ≤ n → Put (is_hex w) (hex_bytes w) (Some n) old new
  unfolding is_hex hex_bytes
  put_end even fits done =
      let e : drop (2 * n) w ≡ [] = drop_of_length-le w {i = 2 * n} (omega (arith, even)) in
      let g : is_hex w ≡ true = v.good ∙ rw e in
      let b : hex_bytes w ≡ take n new = v.bytes ∙ rw (e, append-nil) in
      let k : length (hex_bytes w) ≡ n = omega (arith, length_bytes w, v.within) in
      record { count = rw (g, k, le-leb n (length old) (omega (arith, v.within))); front = λ m z. search (rules, z, b) }

  -- the next two digits
  module _ (h : n < length w / 2) where
    next_two : drop (2 * n) w ≡ get_or w (2 * n) 0 ∷ get_or w (2 * n + 1) 0 ∷ drop (2 * (n + 1)) w
    next_two =
        let e : 2 * (n + 1) ≡ suc (2 * n + 1) = omega arith in
        drop-cons w (2 * n) 0 (omega arith)
        ∙ ap (λ (l : List ℕ). get_or w (2 * n) 0 ∷ l) (rw (← add-one (2 * n), e, drop-cons w (2 * n + 1) 0 (omega arith)))

    next_good : {b : ℕ} → b ≡ hex_byte (get_or w (2 * n) 0) (get_or w (2 * n + 1) 0) → is_hex (drop (2 * n) w) ≡ both (ltb b 256) (is_hex (drop (2 * (n + 1)) w))
    unfolding is_hex
    next_good q = rw (next_two, q)

    next_bytes : {b : ℕ} → b ≡ hex_byte (get_or w (2 * n) 0) (get_or w (2 * n + 1) 0) → hex_bytes (drop (2 * n) w) ≡ b ∷ hex_bytes (drop (2 * (n + 1)) w)
    unfolding hex_bytes
    next_bytes q = rw (next_two, q)

    front_on : (b : ℕ) → length w / 2 ≤ length old → take (n + 1) (set new n b) ≡ take n new ++ (b ∷ [])
    front_on b r = rw (add-one, take-suc-set new n b (omega (arith, v.size)))

    module _ {r : Option ℕ} (q : r ≡ below 256 (hex_byte (get_or w (2 * n) 0) (get_or w (2 * n + 1) 0))) where
      pub put_bad : r ≡ None → Put (is_hex w) (hex_bytes w) None old new
      put_bad k =
          let l : 256 ≤ hex_byte (get_or w (2 * n) 0) (get_or w (2 * n + 1) 0) = below_none _ _ (sym q ∙ k) in
          let e : is_hex w ≡ false = v.good ∙ next_good refl ∙ rw (le-ltb (hex_byte (get_or w (2 * n) 0) (get_or w (2 * n + 1) 0)) 256 l) in
          put_none (rw e)

      pub put_on : {b : ℕ} → r ≡ Some b → length w / 2 ≤ length old → Putting w old (set new n b) (n + 1)
      put_on {b} k z =
          let e : (b ≡ hex_byte (get_or w (2 * n) 0) (get_or w (2 * n + 1) 0)) × (b < 256) = below_some _ _ (sym q ∙ k) in
          record {
            within = omega arith;
            size = length-set new n b ∙ v.size;
            good = v.good ∙ next_good e.0 ∙ rw (lt-ltb b 256 e.1);
            bytes = v.bytes ∙ rw (next_bytes e.0, front_on b z, append_assoc);
          }

-- a byte string: `-`, or digits
pub string_empty : (w : List ℕ) {old new : List ℕ} → length w ≡ 0 → Put (is_string w) (hex_bytes w) None old new
unfolding is_string
string_empty [] h = put_none refl
string_empty (c ∷ w) h = let z : ⊥ = omega arith in absurd z

pub string_dash : (w : List ℕ) {old new : List ℕ} → w ≡ 0x2d ∷ [] → Put (is_string w) (hex_bytes w) (Some 0) old new
unfolding is_string hex_bytes
string_dash w {old} e = rw e (record { count = rw (le-leb 0 (length old) (omega arith)); front = λ m z. search rules })

string_is : (w : List ℕ) → (length w ≡ 0 → ⊥) → (w ≡ 0x2d ∷ [] → ⊥) → is_string w ≡ is_hex w
unfolding is_string is_hex
string_is [] h k = absurd (h refl)
string_is (c ∷ []) h k = ne_eqb c 0x2d (λ e. k (ap (λ (x : ℕ). x ∷ []) e))
string_is (a ∷ b ∷ w) h k = refl

pub is_dash : (w : List ℕ) → length w ≡ 1 → get_or w 0 0 ≡ 0x2d → w ≡ 0x2d ∷ []
is_dash [] h e = let z : ⊥ = omega arith in absurd z
is_dash (c ∷ []) h e = ap (λ (x : ℕ). x ∷ []) e
is_dash (a ∷ b ∷ w) h e = let z : ⊥ = omega arith in absurd z

pub string_other : (w : List ℕ) {r : Option ℕ} {old new : List ℕ} → (length w ≡ 0 → ⊥) → (w ≡ 0x2d ∷ [] → ⊥)
    → Put (is_hex w) (hex_bytes w) r old new → Put (is_string w) (hex_bytes w) r old new
string_other w h k p = rw (string_is w h k) p
