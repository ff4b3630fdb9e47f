-- Searches (document 01, "Where the cursor may go"). A search goes over truth values, one for each cell: whether it is what is sought.
-- What it sees of the page is which cells are guarded. A tail is bound by a `let`, so that antt computes only those that a search reads.
use Rattle.std.specs.Prelude.{ℕ, zero, suc, ◌+◌, ◌-◌, List, [], ◌∷◌, Bool, true, false, not, ltb, eqb}
use Rattle.std.proofs.Math.Seq.{slice}
use Rattle.rules.specs.Cell.{pick, either, both, guarded}
use Rattle.rules.specs.Row.{row_end}
use Rattle.rules.specs.declared.Sought.{Sought}
use Rattle.rules.specs.declared.Sought.TheVariants as Sought

-- for each cell, whether f is true of it
unfoldable pub which_cells : (ℕ → Bool) → List ℕ → List Bool
which_cells f [] = []
which_cells f (v ∷ p) = let t = which_cells f p in f v ∷ t

-- which cells are guarded: all that a plan sees of a page
abbrev pub guarded_at : Bool → List ℕ → List Bool
guarded_at on p = which_cells (guarded on) p

-- which cells are open
unfoldable pub others : List Bool → List Bool
others [] = []
others (b ∷ m) = let t = others m in not b ∷ t

-- "field start": an open cell that is first in the segment or follows a guarded cell. `first` is the segment's first cell, `at` the place
-- of the list's first cell, and `after` says that the cell before it is guarded or that there is none
unfoldable pub starts_from : ℕ → ℕ → Bool → List Bool → List Bool
starts_from first at after [] = []
starts_from first at after (b ∷ m) =
    let t = starts_from first (suc at) b m in both (not b) (either (eqb at first) after) ∷ t

-- for each cell, whether it is what is sought, by the guarded cells
abbrev pub sought_at : Sought → List Bool → List Bool
sought_at Sought.Open g = others g
sought_at Sought.Guarded g = g
sought_at (Sought.FieldStart first) g = starts_from first 0 true g

-- the place of the first that is true, counted from `at`; past the last cell where there is none
abbrev pub first_true : ℕ → List Bool → ℕ
first_true at [] = at
first_true at (true ∷ m) = at
first_true at (false ∷ m) = first_true (suc at) m

-- the place of the last that is true, counted from `at`; `none` where there is none
abbrev pub last_true : ℕ → ℕ → List Bool → ℕ
last_true none at [] = none
last_true none at (true ∷ m) = last_true at (suc at) m
last_true none at (false ∷ m) = last_true none (suc at) m

-- of the cells a up to, not including, e, as far as the list goes: the place of the first sought, or the one past the last of them; that of the last
-- sought, or `none`
unfoldable pub first_in : List Bool → ℕ → ℕ → ℕ
first_in m a e = first_true a (slice a e m)

unfoldable pub last_in : ℕ → List Bool → ℕ → ℕ → ℕ
last_in none m a e = last_true none a (slice a e m)

-- the first cell sought at or after `from`, wrapping at `end` to `first`; `first` where there is none
unfoldable pub around : List Bool → ℕ → ℕ → ℕ → ℕ
around m first end from =
    pick (ltb (first_in m from end) end) (first_in m from end)
    (pick (ltb (first_in m first end) end) (first_in m first end) first)

-- the last cell sought before `from`, wrapping at `first` to `end`; `first` where there is none
unfoldable pub around_back : List Bool → ℕ → ℕ → ℕ → ℕ
around_back m first end from =
    pick (ltb (last_in end m first from) end) (last_in end m first from) (last_in first m first end)

-- "settle" from a place of the segment `first` up to `end`: the first open cell at or after it, wrapping; home if there is none
abbrev pub settled : List Bool → ℕ → ℕ → ℕ → ℕ
settled g first end from = around (sought_at Sought.Open g) first end from

-- 08h: the previous open cell in the segment, else the place itself
abbrev pub previous_open : List Bool → ℕ → ℕ → ℕ
previous_open g first at = last_in at (sought_at Sought.Open g) first at

-- 09h with protect on: the next field start after the cursor, wrapping; home if there is none. ESC I: the previous one
abbrev pub next_field : List Bool → ℕ → ℕ → ℕ → ℕ
next_field g first end at = around (sought_at (Sought.FieldStart first) g) first end (at + 1)

abbrev pub previous_field : List Bool → ℕ → ℕ → ℕ → ℕ
previous_field g first end at = around_back (sought_at (Sought.FieldStart first) g) first end at

-- 09h with protect off: the next tab stop to the right, else the column itself. ESC I: the previous one, else column 1
abbrev pub next_tab : ℕ → List Bool → ℕ → ℕ
next_tab w tabs column = pick (ltb (first_in tabs (column + 1) w) w) (first_in tabs (column + 1) w) column

abbrev pub previous_tab : List Bool → ℕ → ℕ
previous_tab tabs column = last_in 0 tabs 0 column

-- the end of the "edit run": the next guarded cell, or the end of the row
abbrev pub edit_end : ℕ → List Bool → ℕ → ℕ
edit_end w g at = first_in g at (row_end w at)
