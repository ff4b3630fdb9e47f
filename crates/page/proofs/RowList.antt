-- Laws of the row list: its numbers, and counting them.
--     numbers_at                           the numbers of a row
--     guards_take, guards_drop, guards_part     which cells of a part are guarded
--     row_fits                             a row's cells lie in the page
--     all_counted, row_counted, list_all   the loop that counts rows
--     equal_same, same_length              the test of two lists
--     listed, listed_length, beside_is     a list that is there is the page's
-- Assumes nothing.
use mathlib.Core.Path.{◌≡◌, refl, sym, ap, subst, ◌∙◌}
use mathlib.Core.Bool.{Bool, true, false, ◌&&◌}
use mathlib.Core.List.{List, [], ◌∷◌}
use mathlib.Core.Logic.{◌⊎◌, inl, inr, ⊎_elim}
use Prim.Native.Nat.{ℕ, zero, suc, ◌+◌, ◌*◌, ◌/◌, ◌≤◌, ◌<◌}
use native.Mathlib.Nat.{zero-mul, suc-mul, not-suc-le-zero, le_of_suc-le-suc, eq-or-lt_of_le}
use native.Mathlib.Numerals.{add-one}
use native.Mathlib.Omega.{arith}
use lib.Dec.{ltb, eqb}
use lib.Pointwise.{pointwise}
use lib.ListN.{length, get_or, take, drop, set, length-set, drop_of_length-le}
use lib.Seq.{drop-cons, drop-drop, get_or-set_same, get_or-set_other, ext_get_or}
use borrow.Author.Tests.{ltb-true, ltb-false}
use Rattle.rules.specs.Cell.{both, guarded, same}
use Rattle.rules.specs.Row.{columns}
use Rattle.rules.specs.Search.{guarded_at, which_cells}
use Rattle.rules.specs.RowList.{open_count, first_column, row_numbers, row_list, Beside}
use Rattle.page.specs.RowList.{row_at, RowAt, AllBut}
use Rattle.rules.proofs.RowSteps.{same_is, length_list}

-- ---- the numbers of a row

pub numbers_at : (w n : ℕ) (g : List Bool) (k : ℕ) → k < n → RowAt w g (row_numbers w n g) k
unfolding row_numbers
numbers_at w zero g k h = absurd (not-suc-le-zero h)
numbers_at w (suc n) g zero h = record { count = rw zero-mul; first = rw zero-mul }
numbers_at w (suc n) g (suc k) h =
    let r = numbers_at w n (drop w g) k (le_of_suc-le-suc h) in
    let e : 2 * suc k ≡ suc (suc (2 * k)) = omega arith in
    let f : 2 * suc k + 1 ≡ suc (suc (2 * k + 1)) = omega arith in
    let i : w + k * w ≡ suc k * w = omega (arith, suc-mul k w) in
    let m : drop (k * w) (drop w g) ≡ drop (suc k * w) g = drop-drop (k * w) w g ∙ ap (λ (i : ℕ). drop i g) i in
    record {
      count = ap (λ (i : ℕ). get_or (row_numbers w (suc n) g) i 0) e ∙ r.count ∙ ap (λ (x : List Bool). open_count (take w x)) m;
      first = ap (λ (i : ℕ). get_or (row_numbers w (suc n) g) i 0) f ∙ r.first ∙ ap (λ (x : List Bool). first_column (take w x)) m;
    }

pub parity : (j : ℕ) → (j ≡ 2 * (j / 2)) ⊎ (j ≡ 2 * (j / 2) + 1)
parity j = ⊎_elim (λ e. inl (sym e)) (λ h. inr (omega arith)) (eq-or-lt_of_le {n = 2 * (j / 2)} {m = j} (omega arith))

-- two lists with the numbers of the same row are equal there
pub row_same : {w : ℕ} {g : List Bool} {l l' : List ℕ} (j : ℕ) → RowAt w g l (j / 2) → RowAt w g l' (j / 2) → get_or l j 0 ≡ get_or l' j 0
row_same {l = l} {l' = l'} j a b =
    ⊎_elim
    (λ e. ap (λ (i : ℕ). get_or l i 0) e ∙ a.count ∙ sym b.count ∙ ap (λ (i : ℕ). get_or l' i 0) (sym e))
    (λ e. ap (λ (i : ℕ). get_or l i 0) e ∙ a.first ∙ sym b.first ∙ ap (λ (i : ℕ). get_or l' i 0) (sym e))
    (parity j)

-- ---- the cells of a row

pub guards_take : (on : Bool) (n : ℕ) (p : List ℕ) → guarded_at on (take n p) ≡ take n (guarded_at on p)
unfolding which_cells
guards_take on zero p = refl
guards_take on (suc n) [] = refl
guards_take on (suc n) (v ∷ p) = ap (λ (t : List Bool). guarded on v ∷ t) (guards_take on n p)

pub guards_drop : (on : Bool) (n : ℕ) (p : List ℕ) → guarded_at on (drop n p) ≡ drop n (guarded_at on p)
unfolding which_cells
guards_drop on zero p = refl
guards_drop on (suc n) [] = refl
guards_drop on (suc n) (v ∷ p) = guards_drop on n p

pub guards_part : (on : Bool) (a n : ℕ) (p : List ℕ) → guarded_at on (take n (drop a p)) ≡ take n (drop a (guarded_at on p))
guards_part on a n p = guards_take on n (drop a p) ∙ ap (take n) (guards_drop on a p)

pub row_fits : (wide : Bool) (row : ℕ) → row < 24
    → (row * columns wide + columns wide ≡ (row + 1) * columns wide) × (((row + 1) * columns wide ≤ 24 * columns wide) × (24 * columns wide ≤ 3168))
unfolding columns
row_fits true row h = omega arith
row_fits false row h = omega arith

-- ---- counting

more_open : (b : Bool) (g : List Bool) → open_count (b ∷ g) ≡ open_count (b ∷ []) + open_count g
more_open true g = omega arith
more_open false g = omega arith

pub count_step : (on : Bool) (p : List ℕ) (i : ℕ) → i < length p
    → open_count (guarded_at on (drop i p)) ≡ open_count (guarded_at on (get_or p i 0 ∷ [])) + open_count (guarded_at on (drop (i + 1) p))
unfolding which_cells
count_step on p i h = rw (drop-cons p i 0 h, add-one) (more_open (guarded on (get_or p i 0)) (guarded_at on (drop (suc i) p)))

pub count_none : (on : Bool) (p : List ℕ) (i : ℕ) → length p ≤ i → open_count (guarded_at on (drop i p)) ≡ 0
unfolding which_cells
count_none on p i h = rw (drop_of_length-le p {i = i} h)

pub count_most : (g : List Bool) → open_count g ≤ length g
count_most [] = omega arith
count_most (true ∷ g) = omega (arith, count_most g)
count_most (false ∷ g) = omega (arith, count_most g)

-- ---- the loop that counts rows

pub below_or_not : (k b : ℕ) → (k < b) ⊎ (b ≤ k)
below_or_not k b = by (ltb k b) refl
  where
    by : (t : Bool) → ltb k b ≡ t → (k < b) ⊎ (b ≤ k)
    by true e = inl (ltb-true k b e)
    by false e = inr (ltb-false k b e)

module _ (w : ℕ) (g : List Bool) (l : List ℕ) where
  pub list_all : l ≡ row_list w g → (a e : ℕ) → AllBut w g l a e
  list_all i a e k h o = rw i (numbers_at w 24 g k h)

  module _ (size : length l ≡ 48) where
    pub all_counted : (a e : ℕ) → e ≤ a → AllBut w g l a e → l ≡ row_list w g
    all_counted a e i h =
        ext_get_or 0 l (row_list w g) (size ∙ sym (length_list w g))
        (λ j b. row_same j
        (h (j / 2) (omega arith) (⊎_elim (λ c. inl c) (λ c. inr (omega arith)) (below_or_not (j / 2) a)))
        (numbers_at w 24 g (j / 2) (omega arith)))

    pub row_counted : (row bottom : ℕ) → row < bottom → bottom ≤ 24 → AllBut w g l row bottom
        → AllBut w g (set (set l (2 * row) (open_count (row_at w g row))) (2 * row + 1) (first_column (row_at w g row))) (row + 1) bottom
    row_counted row bottom h i r k n o =
        let c = open_count (row_at w g row) in
        let f = first_column (row_at w g row) in
        let m = set l (2 * row) c in
        let here : RowAt w g (set m (2 * row + 1) f) row = record {
          count = get_or-set_other m (2 * row + 1) (2 * row) f 0 (λ e. omega arith) ∙ get_or-set_same l (2 * row) c 0 (omega arith);
          first = get_or-set_same m (2 * row + 1) f 0 (omega (arith, length-set l (2 * row) c));
        } in
        let there : (k < row) ⊎ (bottom ≤ k) → RowAt w g (set m (2 * row + 1) f) k = λ o.
        let d : k ≡ row → ⊥ = ⊎_elim {C = k ≡ row → ⊥} (λ a e. omega arith) (λ a e. omega arith) o in
        let s = r k n o in
        record {
          count = get_or-set_other m (2 * row + 1) (2 * k) f 0 (λ e. omega arith)
              ∙ get_or-set_other l (2 * row) (2 * k) c 0 (λ e. d (omega arith)) ∙ s.count;
          first = get_or-set_other m (2 * row + 1) (2 * k + 1) f 0 (λ e. d (omega arith))
              ∙ get_or-set_other l (2 * row) (2 * k + 1) c 0 (λ e. omega arith) ∙ s.first;
        } in
        ⊎_elim
        (λ a. ⊎_elim (λ e. rw e here) (λ b. there (inl b)) (eq-or-lt_of_le {n = k} {m = row} (omega arith)))
        (λ a. there (inr a)) o

-- ---- the test of two lists

pub equal_same : (k l : List ℕ) → pointwise eqb k l ≡ same k l
unfolding same
equal_same [] [] = refl
equal_same [] (y ∷ l) = refl
equal_same (x ∷ k) [] = refl
equal_same (x ∷ k) (y ∷ l) = by (eqb x y) _ _ (equal_same k l)
  where
    by : (t a b : Bool) → a ≡ b → (t && a) ≡ both t b
    by true a b e = e
    by false a b e = refl

pub same_length : (k l : List ℕ) → (length k ≡ length l → ⊥) → false ≡ same k l
same_length k l n = by (same k l) refl
  where
    by : (t : Bool) → same k l ≡ t → false ≡ t
    by true e = absurd (n (ap length (same_is k l e)))
    by false e = refl

-- ---- what is kept beside a page

pub listed : (w : ℕ) (g : List Bool) {l : List ℕ} → Beside w g l → (length l ≡ 0 → ⊥) → l ≡ row_list w g
listed w g b n = ⊎_elim (λ e. absurd (n e)) (λ e. e) b

pub listed_length : (w : ℕ) (g : List Bool) {l : List ℕ} → Beside w g l → (length l ≡ 0 → ⊥) → length l ≡ 48
listed_length w g b n = ap length (listed w g b n) ∙ length_list w g

-- it is decided by which cells are guarded
pub beside_is : (w : ℕ) {g g' : List Bool} {l : List ℕ} → g ≡ g' → Beside w g l → Beside w g' l
beside_is w {l = l} e b = subst (λ (x : List Bool). Beside w x l) e b
