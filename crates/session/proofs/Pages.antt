-- Pages from call to call.
--     kept_alike     pages alike that are kept as demand 3 says are alike again
--     kept_kept      and kept twice they are kept
-- Assumes nothing.
use mathlib.Core.Path.{◌≡◌, refl, sym, ap, ◌∙◌}
use mathlib.Core.Bool.{Bool, true, false, false≢true}
use mathlib.Core.List.{List, [], ◌∷◌}
use Prim.Native.Nat.{ℕ, zero, suc, ◌<◌}
use native.Mathlib.Omega.{arith}
use lib.ListN.{length, get_or}
use Rattle.rules.specs.Cell.{protected}
use Rattle.rules.specs.Theorems.Noninterference.{AlikePages, KeptPages}

-- a place beyond the page reads as 0, which is not protected
protected_inside : (p : List ℕ) (i : ℕ) → protected (get_or p i 0) ≡ true → i < length p
protected_inside [] i e = absurd (false≢true e)
protected_inside (v ∷ p) zero e = omega arith
protected_inside (v ∷ p) (suc i) e = omega (arith, protected_inside p i e)

module _ {p q a b : List ℕ} (h : AlikePages p q) (k : KeptPages p q a b) (i : ℕ) where
  -- a cell that was protected at the start, in both
  both_protected : protected (get_or p i 0) ≡ true → protected (get_or q i 0) ≡ true
  both_protected e = sym (h.bits i (protected_inside p i e)) ∙ e

  still_first : protected (get_or p i 0) ≡ true → protected (get_or a i 0) ≡ true
  still_first e = ap protected (k.first i e) ∙ e

  still_second : protected (get_or p i 0) ≡ true → protected (get_or b i 0) ≡ true
  still_second e = ap protected (k.second i (both_protected e)) ∙ both_protected e

  cell_bits : protected (get_or a i 0) ≡ protected (get_or b i 0)
  cell_bits = by (protected (get_or p i 0)) refl
    where
      by : (t : Bool) → protected (get_or p i 0) ≡ t → protected (get_or a i 0) ≡ protected (get_or b i 0)
      by true e = still_first e ∙ sym (still_second e)
      by false e = ap protected (k.open_cells i e)

  open_cell_lem : protected (get_or a i 0) ≡ false → get_or a i 0 ≡ get_or b i 0
  open_cell_lem f = by (protected (get_or p i 0)) refl
    where
      by : (t : Bool) → protected (get_or p i 0) ≡ t → get_or a i 0 ≡ get_or b i 0
      by true e = absurd (false≢true (sym f ∙ still_first e))
      by false e = k.open_cells i e

pub kept_alike : {p q a b : List ℕ} → AlikePages p q → KeptPages p q a b → AlikePages a b
kept_alike h k = record { size = k.size; bits = λ i m. cell_bits h k i; cells = λ i m e. open_cell_lem h k i e }

module _ {p q a b c d : List ℕ} (h : AlikePages p q) (k : KeptPages p q a b) (m : KeptPages a b c d) (i : ℕ) where
  -- a cell that was open at the start, and is protected now or not
  open_kept : protected (get_or p i 0) ≡ false → get_or c i 0 ≡ get_or d i 0
  open_kept e = by (protected (get_or a i 0)) refl
    where
      by : (t : Bool) → protected (get_or a i 0) ≡ t → get_or c i 0 ≡ get_or d i 0
      by true u = m.first i u ∙ (k.open_cells i e ∙ sym (m.second i (sym (cell_bits h k i) ∙ u)))
      by false u = m.open_cells i u

pub kept_kept : {p q a b c d : List ℕ} → AlikePages p q → KeptPages p q a b → KeptPages a b c d → KeptPages p q c d
kept_kept {p} {q} {a} {b} h k m = record {
  size = m.size;
  open_cells = λ i e. open_kept h k m i e;
  first = λ i e. m.first i (ap protected (k.first i e) ∙ e) ∙ k.first i e;
  second = λ i e. m.second i (ap protected (k.second i e) ∙ e) ∙ k.second i e;
}
