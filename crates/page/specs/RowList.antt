-- Parts of the row list, for the loops over it.
use Rattle.std.specs.Prelude.{◌≡◌, Bool, List, ◌⊎◌, ℕ, ◌+◌, ◌*◌, ◌≤◌, ◌<◌, get_or, take, drop}
use Rattle.rules.specs.Row.{height}
use Rattle.rules.specs.RowList.{open_count, first_column}

-- the cells of row k
abbrev pub row_at : ℕ → List Bool → ℕ → List Bool
row_at w g k = take w (drop (k * w) g)

-- l has the numbers of row k
pub record RowAt (w : ℕ) (g : List Bool) (l : List ℕ) (k : ℕ) : Type 0 where
  pub count : get_or l (2 * k) 0 ≡ open_count (row_at w g k)
  pub first : get_or l (2 * k + 1) 0 ≡ first_column (row_at w g k)

-- l has the numbers of all rows but those from a up to, not including, e
abbrev pub AllBut : ℕ → List Bool → List ℕ → ℕ → ℕ → Type 0
AllBut w g l a e = (k : ℕ) → k < height → (k < a) ⊎ (e ≤ k) → RowAt w g l k

-- r is the first of the rows a up to, not including, e that has an open cell, or e
pub record FirstRow (l : List ℕ) (a e r : ℕ) : Type 0 where
  pub from : a ≤ r
  pub most : r ≤ e
  pub none : (k : ℕ) → a ≤ k → k < r → get_or l (2 * k) 0 ≡ 0
  pub some : r < e → get_or l (2 * r) 0 ≡ 0 → ⊥
