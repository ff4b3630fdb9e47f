-- Places: what one holds, and the store as its places.
--     place_is, is_place_lem     a set-up makes a place, and a place is made by its set-up
--     laid_last, laid_places, laid_self     a store is laid out of its last number and its places
-- Assumes nothing.
use mathlib.Core.Path.{◌≡◌, refl, sym, ap, ap₂, ◌∙◌}
use mathlib.Core.Bool.{true}
use mathlib.Core.List.{List, [], ◌∷◌, ◌++◌}
use Prim.Native.Nat.{ℕ, zero, suc, ◌+◌, ◌-◌, ◌*◌, ◌/◌, ◌%◌, ◌<◌, ◌≤◌}
use native.Mathlib.Omega.{arith}
use lib.Dec.{leb, eqb}
use lib.Seq.{take-append-add, drop-append_seam, take_at, drop_at, get_or-take, get_or-drop}
use lib.ListN.{length, get_or, take, drop, set, replicate, length-append, length-take, length-drop, length-replicate, take-append-drop}
use borrow.Author.Tests.{leb-true, le-leb, eqb-true}
use Rattle.rules.specs.State.{padded}
use Rattle.rules.proofs.Tests.{both_parts, both_true}
use Rattle.rules.proofs.Texts.{text_of}
use Rattle.saved.specs.SetupBytes.{longest}
use Rattle.saved.specs.Store.{place_size, two_bytes, two_at, place, last_number, cut, places, joined, laid, setup_in, all_zero, is_setup, is_place}

-- ---- zeros

pub zeros_zero : (n : ℕ) → all_zero (replicate n 0) ≡ true
unfolding all_zero
zeros_zero zero = refl
zeros_zero (suc n) = zeros_zero n

pub zero_zeros : (l : List ℕ) → all_zero l ≡ true → l ≡ replicate (length l) 0
unfolding all_zero
zero_zeros [] e = refl
zero_zeros (b ∷ l) e =
    let r = both_parts (eqb b 0) (all_zero l) e in
    ap₂ (λ (x : ℕ) (y : List ℕ). x ∷ y) (eqb-true b 0 r.0) (zero_zeros l r.1)

take_zeros : (n k : ℕ) → n ≤ k → take n (replicate {A = ℕ} k 0) ≡ replicate n 0
take_zeros zero k h = refl
take_zeros (suc n) zero h = absurd (omega arith)
take_zeros (suc n) (suc k) h = ap {B = List ℕ} (λ l. 0 ∷ l) (take_zeros n k (omega arith))

-- ---- one place

-- one that holds no set-up
abbrev pub empty : List ℕ
empty = replicate place_size 0

pub padded_split : (l : List ℕ) → length l ≤ longest → padded longest l ≡ l ++ replicate (longest - length l) 0
padded_split l h =
    let e : length l + (longest - length l) ≡ longest = omega arith in
    rw e at (take-append-add l (replicate longest 0) (longest - length l)) ∙ rw (take_zeros (longest - length l) longest (omega arith))

padded_length : (l : List ℕ) → length (padded longest l) ≡ longest
padded_length l = omega
    (arith, length-take longest (l ++ replicate longest 0), length-append l (replicate longest 0), length-replicate {A = ℕ} longest 0)

pub place_length : (l : List ℕ) → length (place l) ≡ place_size
unfolding place
place_length l = omega (arith, padded_length l)

module _ (l : List ℕ) (h : length l ≤ longest) where
  pub place_number : two_at (place l) 0 ≡ length l
  unfolding place
  place_number = omega arith

  pub place_setup : setup_in (place l) ≡ l
  unfolding place
  place_setup = rw place_number (text_of longest l h)

  place_zeros : all_zero (drop (two_at (place l) 0) (drop 2 (place l))) ≡ true
  unfolding place
  place_zeros =
      let e : drop (length l) (padded longest l) ≡ replicate (longest - length l) 0 =
      ap (drop (length l)) (padded_split l h) ∙ drop-append_seam l (replicate (longest - length l) 0) in
      rw (place_number, e) (zeros_zero (longest - length l))

  pub place_is : is_setup l ≡ true → is_place (place l) ≡ true
  unfolding is_place
  place_is e =
      let n : leb (two_at (place l) 0) longest ≡ true = le-leb (two_at (place l) 0) longest (omega (arith, place_number)) in
      both_true n (both_true place_zeros (rw place_setup e))

-- a place of its size, and its first byte is a byte
pub record Sound (p : List ℕ) : Type 0 where
  pub size : length p ≡ place_size
  pub byte : get_or p 0 0 < 256

pub place_sound : (l : List ℕ) → Sound (place l)
unfolding place
place_sound l = record { size = place_length l; byte = omega arith }

pub empty_sound : Sound empty
empty_sound = record { size = length-replicate {A = ℕ} place_size 0; byte = omega arith }

number_bytes : (a b : ℕ) → a < 256 → two_bytes (a + 256 * b) ≡ a ∷ b ∷ []
number_bytes a b h =
    let low : (a + 256 * b) % 256 ≡ a = omega arith in
    let high : (a + 256 * b) / 256 ≡ b = omega arith in
    rw (low, high)

-- what a place holds that passes the test
pub record Holds (p : List ℕ) : Type 0 where
  pub short : length (setup_in p) ≤ longest
  pub setup : is_setup (setup_in p) ≡ true
  pub is : place (setup_in p) ≡ p

pub is_place_lem : (p : List ℕ) → Sound p → is_place p ≡ true → Holds p
unfolding is_place
is_place_lem [] s e = absurd (omega (arith, s.size))
is_place_lem (a ∷ []) s e = absurd (omega (arith, s.size))
is_place_lem (a ∷ b ∷ l) s e =
    let n = a + 256 * b in
    let r = both_parts (leb n longest) _ e in
    let q = both_parts (all_zero (drop n l)) (is_setup (take n l)) r.1 in
    let h = leb-true n longest r.0 in
    let long : length l ≡ longest = omega (arith, s.size) in
    let size : length (take n l) ≡ n = omega (arith, length-take n l) in
    let rest : length (drop n l) ≡ longest - n = omega (arith, length-drop n l) in
    let zeros : drop n l ≡ replicate (longest - n) 0 = zero_zeros (drop n l) q.0 ∙ ap (λ (k : ℕ). replicate k 0) rest in
    let short : length (take n l) ≤ longest = omega arith in
    let body : padded longest (take n l) ≡ l =
    padded_split (take n l) short ∙ ap (λ (k : ℕ). take n l ++ replicate (longest - k) 0) size ∙ ap (λ (z : List ℕ). take n l ++ z) (sym zeros)
    ∙ take-append-drop n l in
    record { short = short; setup = q.1; is = held size body }
  where
    held : length (take (a + 256 * b) l) ≡ a + 256 * b → padded longest (take (a + 256 * b) l) ≡ l → place (take (a + 256 * b) l) ≡ a ∷ b ∷ l
    held x y = unfold place in ap₂ {C = List ℕ} (λ u v. u ++ v) (ap two_bytes x ∙ number_bytes a b s.byte) y

-- ---- the places of a store

pub data All : List (List ℕ) → Type 0 where
  none : All []
  more : {p : List ℕ} {l : List (List ℕ)} → Sound p → All l → All (p ∷ l)

pub all_set : {l : List (List ℕ)} {p : List ℕ} (k : ℕ) → All l → Sound p → All (set l k p)
all_set k none s = none
all_set zero (more h a) s = more s a
all_set (suc k) (more h a) s = more h (all_set k a s)

pub all_at : {l : List (List ℕ)} (k : ℕ) → All l → k < length l → Sound (get_or l k [])
all_at k none h = absurd (omega arith)
all_at zero (more s a) h = s
all_at (suc k) (more s a) h = all_at k a (omega arith)

-- cut and joined again
pub cut_joined : (l : List (List ℕ)) → All l → cut (length l) (joined l) ≡ l
unfolding cut joined
cut_joined [] none = refl
cut_joined (p ∷ l) (more s a) =
    rw (take_at p (joined l) place_size s.size, drop_at p (joined l) place_size s.size, cut_joined l a)

pub joined_length : (l : List (List ℕ)) → All l → length (joined l) ≡ length l * place_size
unfolding joined
joined_length [] none = refl
joined_length (p ∷ l) (more s a) = omega (arith, length-append p (joined l), s.size, joined_length l a)

pub cut_length : (k : ℕ) (l : List ℕ) → length (cut k l) ≡ k
unfolding cut
cut_length zero l = refl
cut_length (suc k) l = ap suc (cut_length k (drop place_size l))

pub joined_cut : (k : ℕ) (l : List ℕ) → length l ≡ k * place_size → joined (cut k l) ≡ l
unfolding cut joined
joined_cut zero [] e = refl
joined_cut zero (b ∷ l) e = absurd (omega arith)
joined_cut (suc k) l e =
    ap (λ (z : List ℕ). take place_size l ++ z) (joined_cut k (drop place_size l) (omega (arith, length-drop place_size l)))
    ∙ take-append-drop place_size l

-- a store of bytes
pub cut_all : (k : ℕ) (l : List ℕ) → length l ≡ k * place_size → ((i : ℕ) → get_or l i 0 < 256) → All (cut k l)
unfolding cut
cut_all zero l e h = none
cut_all (suc k) l e h =
    let first : get_or (take place_size l) 0 0 ≡ get_or l 0 0 = get_or-take place_size l 0 0 (omega arith) in
    let sound : Sound (take place_size l) = record { size = omega (arith, length-take place_size l); byte = omega (arith, first, h 0) } in
    more sound
    (cut_all k (drop place_size l) (omega (arith, length-drop place_size l)) (λ i. rw (get_or-drop place_size l i 0) (h (place_size + i))))

module _ (n : ℕ) (l : List (List ℕ)) where
  pub laid_last : last_number (laid n l) ≡ n
  unfolding laid
  laid_last = omega arith

  pub laid_places : length l ≡ 8 → All l → places (laid n l) ≡ l
  unfolding laid
  laid_places e a = rw e at (cut_joined l a)

  pub laid_length : length l ≡ 8 → All l → length (laid n l) ≡ 8714
  unfolding laid
  laid_length e a = omega (arith, joined_length l a)

-- a store of bytes, of its length, is laid out of its number and its places
pub laid_self : (store : List ℕ) → length store ≡ 8714 → get_or store 0 0 < 256 → laid (last_number store) (places store) ≡ store
unfolding laid
laid_self [] e h = absurd (omega arith)
laid_self (a ∷ []) e h = absurd (omega arith)
laid_self (a ∷ b ∷ l) e h = ap₂ {C = List ℕ} (λ u v. u ++ v) (number_bytes a b h) (joined_cut 8 l (omega arith))
