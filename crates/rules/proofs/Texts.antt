-- Laws of texts: a text made of few enough bytes of its kind is possible, and so are the keys and labels after one of them is set.
-- Assumes nothing.
use mathlib.Core.Path.{◌≡◌, refl, ◌∙◌, ap}
use mathlib.Core.Bool.{true}
use mathlib.Core.List.{List, [], ◌∷◌, ◌++◌}
use Prim.Native.Nat.{ℕ, zero, suc, ◌+◌, ◌≤◌, ◌<◌}
use native.Mathlib.Omega.{arith}
use native.Mathlib.Numerals.{add-one}
use lib.Dec.{leb}
use lib.ListN.{length, take, set, get_or, replicate, length-take}
use lib.Seq.{take-take, take-append_seam}
use borrow.Author.Tests.{le-leb, leb-true}
use Rattle.rules.specs.declared.Text.{Text}
use Rattle.rules.specs.State.{padded}
use Rattle.rules.specs.Slot.{is_text, all_text, text_ok, texts_ok}
use Rattle.rules.proofs.Tests.{both_parts, both_true}

-- a text holds the bytes that it was made of
pub text_of : (most : ℕ) (l : List ℕ) → length l ≤ most → take (length l) (padded most l) ≡ l
text_of most l h = take-take (length l) most (l ++ replicate most 0) h ∙ take-append_seam l (replicate most 0)

module _ (low most : ℕ) where
  -- the length and the bytes of a possible text
  pub text_parts : (n : ℕ) (g : List ℕ) → text_ok low most n g ≡ true → (n ≤ most) × (all_text low (take n g) ≡ true)
  unfolding text_ok
  text_parts n g e =
      let r = both_parts (leb n most) (all_text low (take n g)) e in
      (leb-true n most r.0, r.1)

  pub text_made : (l : List ℕ) → length l ≤ most → all_text low l ≡ true → text_ok low most (length l) (padded most l) ≡ true
  unfolding text_ok
  text_made l h e = both_true (le-leb (length l) most h) (ap (all_text low) (text_of most l h) ∙ e)

  -- what a slot takes of the bytes gathered
  pub text_taken : (n : ℕ) (g : List ℕ) → text_ok low most n g ≡ true
      → text_ok low most (length (take n g)) (padded most (take n g)) ≡ true
  text_taken n g e =
      let r = text_parts n g e in
      text_made (take n g) (omega (arith, length-take n g)) r.1

  -- nothing is gathered yet
  pub text_begun : (g : List ℕ) → text_ok low most 0 g ≡ true
  unfolding text_ok all_text
  text_begun g = both_true (le-leb 0 most (omega arith)) refl

-- one byte more, behind n of them
all_gathered : (low : ℕ) (g : List ℕ) (n b : ℕ) → all_text low (take n g) ≡ true → is_text low b ≡ true → all_text low (take (suc n) (set g n b)) ≡ true
unfolding all_text
all_gathered low [] n b e h = refl
all_gathered low (x ∷ g) zero b e h = both_true h refl
all_gathered low (x ∷ g) (suc n) b e h =
    let r = both_parts (is_text low x) (all_text low (take n g)) e in
    both_true r.0 (all_gathered low g n b r.1 h)

pub text_grown : (low most n : ℕ) (g : List ℕ) (b : ℕ) → text_ok low most n g ≡ true → n < most → is_text low b ≡ true
    → text_ok low most (n + 1) (set g n b) ≡ true
unfolding text_ok
text_grown low most n g b e l h =
    both_true (le-leb (n + 1) most (omega arith)) (rw (add-one n) (all_gathered low g n b (text_parts low most n g e).1 h))

pub texts_set : (low : ℕ) (l : List (Text 8)) (n : ℕ) (t : Text 8) → texts_ok low l ≡ true → text_ok low 8 t.len t.bytes ≡ true
    → texts_ok low (set l n t) ≡ true
unfolding texts_ok
texts_set low [] n t e h = refl
texts_set low (x ∷ l) zero t e h = both_true h (both_parts (text_ok low 8 x.len x.bytes) (texts_ok low l) e).1
texts_set low (x ∷ l) (suc n) t e h =
    let r = both_parts (text_ok low 8 x.len x.bytes) (texts_ok low l) e in
    both_true r.0 (texts_set low l n t r.1 h)

pub texts_at : (low : ℕ) (l : List (Text 8)) (n : ℕ) (d : Text 8) → texts_ok low l ≡ true → text_ok low 8 d.len d.bytes ≡ true
    → text_ok low 8 (get_or l n d).len (get_or l n d).bytes ≡ true
unfolding texts_ok
texts_at low [] n d e h = h
texts_at low (x ∷ l) zero d e h = (both_parts (text_ok low 8 x.len x.bytes) (texts_ok low l) e).0
texts_at low (x ∷ l) (suc n) d e h = texts_at low l n d (both_parts (text_ok low 8 x.len x.bytes) (texts_ok low l) e).1 h
