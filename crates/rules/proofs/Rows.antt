-- Laws of rows and columns over the width. `by_width` is the one place where the widths are gone through.
-- Assumes nothing.
use mathlib.Core.Path.{◌≡◌, refl, sym, subst}
use mathlib.Core.Bool.{Bool, true, false}
use mathlib.Core.Logic.{⊎_elim, inl, inr}
use Prim.Native.Nat.{ℕ, suc, ◌+◌, ◌-◌, ◌*◌, ◌/◌, ◌%◌, ◌≤◌, ◌<◌}
use native.Mathlib.Omega.{arith}
use Rattle.rules.specs.Row.{Width, columns, row_end, Placed}

-- what holds at each width: with a numeral for the width, `omega` does the rest
pub by_width : (P : ℕ → Type 0) → P 80 → P 132 → {w : ℕ} → Width w → P w
by_width P a b k = ⊎_elim (λ e. subst P (sym e) a) (λ e. subst P (sym e) b) k

pub columns_width : (wide : Bool) → Width (columns wide)
unfolding columns
columns_width true = inr refl
columns_width false = inl refl

module _ {w : ℕ} (k : Width w) where
  pub placed : {top bottom at : ℕ} → top < bottom → bottom ≤ 24 → top * w ≤ at → at < bottom * w → Placed w top bottom at
  unfolding row_end
  placed {top} {bottom} {at} r m a b =
      by_width (λ (w : ℕ). top * w ≤ at → at < bottom * w → Placed w top bottom at) (λ a b. omega arith) (λ a b. omega arith) k a b

  pub width_range : (80 ≤ w) × (w ≤ 132)
  width_range = by_width (λ (w : ℕ). (80 ≤ w) × (w ≤ 132)) (omega arith) (omega arith) k

  pub column_most : (at : ℕ) → at % w ≤ at
  column_most at = by_width (λ (w : ℕ). at % w ≤ at) (omega arith) (omega arith) k

  pub column_below : (at : ℕ) → at % w < w
  column_below at = by_width (λ (w : ℕ). at % w < w) (omega arith) (omega arith) k

  -- so many rows begin no later
  pub rows_le : {a b : ℕ} → a ≤ b → a * w ≤ b * w
  rows_le {a} {b} h = by_width (λ (w : ℕ). a * w ≤ b * w) (omega arith) (omega arith) k

  pub rows_small : {a : ℕ} → a ≤ 24 → a * w ≤ 3168
  rows_small {a} h = by_width (λ (w : ℕ). a * w ≤ 3168) (omega arith) (omega arith) k

  pub row_is : (at : ℕ) → at / w * w + w ≡ row_end w at
  unfolding row_end
  row_is at = by_width (λ (w : ℕ). at / w * w + w ≡ (at / w + 1) * w) (omega arith) (omega arith) k

  pub row_after_lem : (at : ℕ) → at < row_end w at
  unfolding row_end
  row_after_lem at = by_width (λ (w : ℕ). at < (at / w + 1) * w) (omega arith) (omega arith) k

  pub row_inside : (at : ℕ) → at < 24 * w → row_end w at ≤ 24 * w
  unfolding row_end
  row_inside at h = by_width (λ (w : ℕ). at < 24 * w → (at / w + 1) * w ≤ 24 * w) (λ h. omega arith) (λ h. omega arith) k h

  pub page_small : 24 * w ≤ 3168
  page_small = by_width (λ (w : ℕ). 24 * w ≤ 3168) (omega arith) (omega arith) k

  pub cell_inside : {row column bottom : ℕ} → row < bottom → column < w → row * w + column < bottom * w
  cell_inside {row} {column} {bottom} h i =
      by_width (λ (w : ℕ). column < w → row * w + column < bottom * w) (λ i. omega arith) (λ i. omega arith) k i
