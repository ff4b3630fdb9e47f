-- Laws of fields.
--     page_of_lem                             a page's width, by its length
--     length_starts, protected_start, row_start_lem, inner_start     where a field starts, cell by cell
--     first_past                          a search from past its end
-- Assumes nothing.
use mathlib.Core.Path.{◌≡◌, refl, ap, ◌∙◌}
use mathlib.Core.Bool.{Bool, true, false, not}
use mathlib.Core.List.{List, [], ◌∷◌}
use mathlib.Core.Logic.{inl, inr}
use Prim.Native.Nat.{ℕ, zero, suc, ◌+◌, ◌-◌, ◌*◌, ◌%◌, ◌≤◌, ◌<◌}
use native.Mathlib.Nat.{le_of_suc-le-suc, not-suc-le-zero, zero-add, add-zero}
use native.Mathlib.Omega.{arith}
use lib.Dec.{eqb}
use lib.ListN.{length, get_or, drop_of_length-le}
use lib.Seq.{slice, length-take-le}
use borrow.Author.Tests.{eqb-true, eq-eqb, ne_eqb}
use Rattle.rules.specs.Cell.{pick, both, either}
use Rattle.rules.specs.Row.{Width, column_of}
use Rattle.rules.specs.Search.{first_in}
use Rattle.rules.specs.Send.{left_out}
use Rattle.rules.specs.Fields.{page_width, protected_at, starts_at, field_starts, is_field_start}
use Rattle.rules.proofs.Searching.{length_by}
use Rattle.rules.proofs.Rows.{by_width}

abbrev width_if : Bool → Bool → ℕ
width_if narrow wide = pick narrow 80 (pick wide 132 0)

widths : {n : ℕ} (s t : Bool) → (s ≡ true → n ≡ 1920) → (t ≡ true → n ≡ 3168) → (width_if s t ≡ 0 → ⊥) → Width (width_if s t) × (n ≡ 24 * width_if s t)
widths true t f g h = (inl refl, f refl)
widths false true f g h = (inr refl, g refl)
widths false false f g h = absurd (h refl)

-- a page has 24 rows of its width
pub page_of_lem : {w : ℕ} (n : ℕ) → w ≡ page_width n → (w ≡ 0 → ⊥) → Width w × (n ≡ 24 * w)
unfolding page_width
page_of_lem n e h = rw e (widths (eqb n 1920) (eqb n 3168) (eqb-true n 1920) (eqb-true n 3168) (rw e at h))

-- ---- where fields start

length_starts_at : (w at : ℕ) (after : Bool) (m : List Bool) → length (starts_at w at after m) ≡ length m
unfolding starts_at
length_starts_at w at after [] = refl
length_starts_at w at after (b ∷ m) = ap suc (length_starts_at w (suc at) b m)

pub length_starts : (w : ℕ) (p : List ℕ) → length (field_starts w p) ≡ length p
length_starts w p = length_starts_at w 0 true (protected_at p) ∙ length_by (left_out true) p

-- whether the cell before cell i of the list is protected: b says so of what is before the list
abbrev before : Bool → List Bool → ℕ → Bool
before b m zero = b
before b m (suc j) = get_or m j false

before_cons : (b c : Bool) (m : List Bool) (j : ℕ) → before c m j ≡ before b (c ∷ m) (suc j)
before_cons b c m zero = refl
before_cons b c m (suc j) = refl

start_at : (w at : ℕ) (b : Bool) (m : List Bool) (i : ℕ) → i < length m
    → get_or (starts_at w at b m) i false ≡ both (not (get_or m i false)) (either (eqb (column_of w (at + i)) 0) (before b m i))
unfolding starts_at
start_at w at b [] i h = absurd (not-suc-le-zero h)
start_at w at b (c ∷ m) zero h = rw add-zero
start_at w at b (c ∷ m) (suc j) h =
    let e : suc at + j ≡ at + suc j = omega arith in
    start_at w (suc at) c m j (le_of_suc-le-suc h) ∙ rw (e, before_cons b c m j)

module _ {w : ℕ} (k : Width w) (p : List ℕ) (i : ℕ) (h : i < length p) where
  start_is : is_field_start w p i ≡ both (not (get_or (protected_at p) i false)) (either (eqb (column_of w i) 0) (before true (protected_at p) i))
  start_is = start_at w 0 true (protected_at p) i (rw (length_by (left_out true) p) h) ∙ rw (zero-add i)

  pub protected_start : get_or (protected_at p) i false ≡ true → is_field_start w p i ≡ false
  protected_start m = start_is ∙ rw m

  pub row_start_lem : get_or (protected_at p) i false ≡ false → column_of w i ≡ 0 → is_field_start w p i ≡ true
  row_start_lem m c = start_is ∙ rw (m, eq-eqb (column_of w i) 0 c)

  -- a cell in the middle of a row is not the first
  pub inner_cell : (column_of w i ≡ 0 → ⊥) → 0 < i
  inner_cell c = by_width (λ (w : ℕ). (i % w ≡ 0 → ⊥) → 0 < i) (λ c. omega arith) (λ c. omega arith) k c

  pub inner_start : get_or (protected_at p) i false ≡ false → (column_of w i ≡ 0 → ⊥) → is_field_start w p i ≡ get_or (protected_at p) (i - 1) false
  inner_start m c = start_is ∙ rw (m, ne_eqb (column_of w i) 0 c) (before_is i (inner_cell c))
    where
      before_is : (i : ℕ) → 0 < i → before true (protected_at p) i ≡ get_or (protected_at p) (i - 1) false
      before_is zero z = absurd (not-suc-le-zero z)
      before_is (suc j) z = let e : suc j - 1 ≡ j = omega arith in rw e

pub first_past : (m : List Bool) (a e : ℕ) → e ≤ length m → e ≤ a → first_in m a e ≡ a
unfolding first_in
first_past m a e k h = rw (drop_of_length-le (slice 0 e m) {i = a} (omega (arith, length-take-le e m k)))
