-- Laws of arrays as lists.
-- Assumes nothing.
use Rattle.std.specs.Prelude.{◌≡◌, ℕ, zero, suc, Bool, true, false, ◌&&◌, List, [], ◌∷◌, length, get_or}
use Rattle.std.specs.List.{list_all}
use mathlib.Core.Path.{refl, sym, ap}
use native.Mathlib.Nat.{suc-ne-zero, suc_inj}
use Rattle.rules.specs.Cell.{both}

-- a list of n elements is those elements
abbrev pub tabulated : ℕ → (ℕ → ℕ) → List ℕ
tabulated zero f = []
tabulated (suc n) f = f 0 ∷ tabulated n (λ (i : ℕ). f (suc i))

pub elements : (n : ℕ) (l : List ℕ) → length l ≡ n → l ≡ tabulated n (λ (i : ℕ). get_or l i 0)
elements zero [] h = refl
elements zero (x ∷ l) h = absurd (suc-ne-zero (length l) h)
elements (suc n) [] h = absurd (suc-ne-zero n (sym h))
elements (suc n) (x ∷ l) h = ap (λ (r : List ℕ). x ∷ r) (elements n l (suc_inj h))

and_both : (a b : Bool) → (a && b) ≡ both a b
and_both true b = refl
and_both false b = refl

-- a test of each element, as `all` answers it
pub all_is : {X : Type 0} (F : List X → Bool) (p : X → Bool) → F [] ≡ true → ((x : X) (l : List X) → F (x ∷ l) ≡ both (p x) (F l))
    → (l : List X) → list_all p l ≡ F l
all_is F p none more [] = sym none
all_is F p none more (x ∷ l) = rw (more x l, all_is F p none more l) (and_both (p x) (F l))
