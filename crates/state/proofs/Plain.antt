-- Laws of plain texts: those whose bytes are all at most 7Eh, the ones behind the end too.
--     plain     what a chain of tests over a text of eight bytes tells
--     begin, go, at, finish     a loop over texts that are plain: its start, a turn, its count by another name, its end
-- Assumes nothing.
use Rattle.std.specs.Prelude.{◌≡◌, ℕ, zero, suc, ◌+◌, ◌<◌, ◌≤◌, Bool, true, ltb, List, [], ◌∷◌, length, get_or, take, drop}
use mathlib.Core.Path.{refl, sym, ◌∙◌, subst}
use native.Mathlib.Omega.{arith}
use native.Mathlib.Numerals.{add-one}
use borrow.Author.Tests.{le-leb, ltb-true}
use lib.ListN.{drop_of_length-le}
use lib.Seq.{drop-cons}
use Rattle.rules.specs.Cell.{both}
use Rattle.rules.specs.Slot.{is_text, all_text, text_ok, texts_ok}
use Rattle.rules.specs.declared.Text.{Text}
use Rattle.state.proofs.Tests.{both_left, both_right}
use Rattle.state.proofs.Lists.{tabulated, elements}

-- each of a list of bytes, those before them first, is below 7Fh
abbrev below : Bool → List ℕ → Bool
below b [] = b
below b (x ∷ l) = below (both b (ltb x 0x7f)) l

below_before : (b : Bool) (l : List ℕ) → below b l ≡ true → b ≡ true
below_before b [] h = h
below_before b (x ∷ l) h = both_left b (ltb x 0x7f) (below_before (both b (ltb x 0x7f)) l h)

below_text : (b : Bool) (n : ℕ) (l : List ℕ) → below b l ≡ true → all_text 0 (take n l) ≡ true
unfolding all_text is_text
below_text b zero l h = refl
below_text b (suc n) [] h = refl
below_text b (suc n) (x ∷ l) h = rw (
  le-leb 0 x (omega arith),
  both_right b (ltb x 0x7f) (below_before (both b (ltb x 0x7f)) l h),
  below_text (both b (ltb x 0x7f)) n l h,
)

-- eight bytes, one by one
pub plain : (b : Bool) (n : ℕ) (l : List ℕ) → length l ≡ 8
    → below (both b (ltb n 9)) (tabulated 8 (λ (i : ℕ). get_or l i 0)) ≡ true
    → (b ≡ true) × (text_ok 0 8 n l ≡ true)
unfolding text_ok
plain b n l e h =
    let k : below (both b (ltb n 9)) l ≡ true = subst (λ (t : List ℕ). below (both b (ltb n 9)) t ≡ true) (sym (elements 8 l e)) h in
    let f : both b (ltb n 9) ≡ true = below_before (both b (ltb n 9)) l k in
    let m : n < 9 = ltb-true n 9 (both_right b (ltb n 9) f) in
    (both_left b (ltb n 9) f, rw (le-leb n 8 (omega arith), below_text (both b (ltb n 9)) n l k))

-- the same of a chain of tests, each with its result
pub chained : (b : Bool) (n : ℕ) (l : List ℕ) {a₀ a₁ a₂ a₃ a₄ a₅ a₆ a₇ a₈ : Bool} → length l ≡ 8
    → a₀ ≡ both b (ltb n 9)
    → a₁ ≡ both a₀ (ltb (get_or l 0 0) 0x7f)
    → a₂ ≡ both a₁ (ltb (get_or l 1 0) 0x7f)
    → a₃ ≡ both a₂ (ltb (get_or l 2 0) 0x7f)
    → a₄ ≡ both a₃ (ltb (get_or l 3 0) 0x7f)
    → a₅ ≡ both a₄ (ltb (get_or l 4 0) 0x7f)
    → a₆ ≡ both a₅ (ltb (get_or l 5 0) 0x7f)
    → a₇ ≡ both a₆ (ltb (get_or l 6 0) 0x7f)
    → a₈ ≡ both a₇ (ltb (get_or l 7 0) 0x7f)
    → a₈ ≡ true → (b ≡ true) × (text_ok 0 8 n l ≡ true)
chained b n l e e₀ e₁ e₂ e₃ e₄ e₅ e₆ e₇ e₈ h = plain b n l e (rw (← e₀, ← e₁, ← e₂, ← e₃, ← e₄, ← e₅, ← e₆, ← e₇, ← e₈) h)

-- if all was plain, then the texts from i on decide
pub record Plain (l : List (Text 8)) (b : Bool) (i : ℕ) : Type 0 where
  pub rest : b ≡ true → texts_ok 0 l ≡ texts_ok 0 (drop i l)

module _ (l : List (Text 8)) where
  pub begin : Plain l true 0
  begin = record { rest = λ h. refl }

  pub go : (b c : Bool) (i : ℕ) → i < length l
      → (c ≡ true → (b ≡ true) × (text_ok 0 8 (get_or l i record { len = 0; bytes = [] }).len (get_or l i record { len = 0; bytes = [] }).bytes ≡ true))
      → Plain l b i → Plain l c (i + 1)
  unfolding texts_ok
  go b c i h e x = record {
    rest = λ k. x.rest (e k).0 ∙ rw (drop-cons l i record { len = 0; bytes = [] } h, (e k).1, add-one);
  }

  pub at : (b : Bool) (i k : ℕ) → i ≡ k → Plain l b i → Plain l b k
  at b i k e x = subst (λ (n : ℕ). Plain l b n) e x

  pub finish : (b : Bool) (i : ℕ) → Plain l b i → length l ≤ i → b ≡ true → texts_ok 0 l ≡ true
  unfolding texts_ok
  finish b i x h e = x.rest e ∙ rw (drop_of_length-le l h)
