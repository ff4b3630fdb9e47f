-- Which rows have room (document 02, A5): "a lent list of 48 sixteen-bit numbers, two for each row: the number of open cells, then the column
-- of the first one, or 0". Which cells are guarded decides it.
use Rattle.std.specs.Prelude.{◌≡◌, Bool, true, false, List, [], ◌∷◌, ◌⊎◌, ℕ, zero, suc, eqb, length, take, drop}
use Rattle.rules.specs.declared.State.{State}
use Rattle.rules.specs.Cell.{pick, same}
use Rattle.rules.specs.Row.{height}
use Rattle.rules.specs.Search.{guarded_at, others, first_true}
use Rattle.rules.specs.State.{width_of}

-- the number of open cells
abbrev pub open_count : List Bool → ℕ
open_count [] = 0
open_count (true ∷ g) = open_count g
open_count (false ∷ g) = suc (open_count g)

-- the column of the first one, from 1
unfoldable pub first_column : List Bool → ℕ
first_column g = pick (eqb (open_count g) 0) 0 (first_true 1 (others g))

-- the numbers of n rows of w columns
unfoldable pub row_numbers : ℕ → ℕ → List Bool → List ℕ
row_numbers w zero g = []
row_numbers w (suc n) g = open_count (take w g) ∷ first_column (take w g) ∷ row_numbers w n (drop w g)

abbrev pub row_list : ℕ → List Bool → List ℕ
row_list w g = row_numbers w height g

-- what is kept beside a page: no list, or that of its guarded cells g
abbrev pub Beside : ℕ → List Bool → List ℕ → Type 0
Beside w g l = (length l ≡ 0) ⊎ (l ≡ row_list w g)

-- the row list of a page and a state
abbrev pub rows_of : List ℕ → State → List ℕ
rows_of p s = row_list (width_of s.core.screen) (guarded_at s.core.modes.protect p)

-- the list agrees with the page and protect mode
abbrev pub agrees : List ℕ → List ℕ → State → Bool
agrees l p s = same l (rows_of p s)
