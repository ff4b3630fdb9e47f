-- Changes of cells (document 01, "Writing and clearing"). Each says what becomes of a part; `within` makes it a change of the page.
-- None changes the page's length, whatever its numbers are.
use Rattle.std.specs.Prelude.{ℕ, zero, suc, ◌+◌, ◌-◌, ◌*◌, List, [], ◌∷◌, ◌++◌, map, Bool, true, false, length, take, drop, replicate}
use Rattle.rules.specs.Cell.{pick, guarded, space}
use Rattle.rules.specs.Search.{guarded_at, edit_end}

-- the cells a up to, not including, e are changed by f, and no other
unfoldable pub within : ℕ → ℕ → (List ℕ → List ℕ) → List ℕ → List ℕ
within a e f p = take a p ++ (f (take (e - a) (drop a p)) ++ drop (e - a) (drop a p))

-- an open cell becomes v, a guarded one stays
abbrev pub fill_cell : Bool → ℕ → ℕ → ℕ
fill_cell on v x = pick (guarded on x) x v

-- with protect mode on, the open cells of a part become v; with protect mode off, all cells
unfoldable pub filled : Bool → ℕ → List ℕ → List ℕ
filled on v p = map (fill_cell on v) p

-- k cells out at the front and k times v in at the back
unfoldable pub shift_left : ℕ → ℕ → List ℕ → List ℕ
shift_left k v p = drop k (p ++ replicate k v)

-- k times v in at the front and k cells out at the back
unfoldable pub shift_right : ℕ → ℕ → List ℕ → List ℕ
shift_right k v p = take (length p) (replicate k v ++ p)

-- the one shift
abbrev pub shifted : Bool → ℕ → ℕ → List ℕ → List ℕ
shifted right k v p = pick right (shift_right k v p) (shift_left k v p)

-- the "edit run" from a cell moves by one cell and v comes in: right for an insert, left for a delete
unfoldable pub edit_shifted : ℕ → Bool → Bool → ℕ → ℕ → List ℕ → List ℕ
edit_shifted w on right v at p = within at (edit_end w (guarded_at on p) at) (shifted right 1 v) p

-- the rows `top` up to, not including, `bottom` move by one row, and a row of unprotected spaces comes in
unfoldable pub rows_shifted : ℕ → Bool → ℕ → ℕ → List ℕ → List ℕ
rows_shifted w down top bottom p = within (top * w) (bottom * w) (shifted down w space) p

-- the open cells of a column become v, in n rows from `row` on
unfoldable pub column_filled : ℕ → Bool → ℕ → ℕ → ℕ → ℕ → List ℕ → List ℕ
column_filled w on v column zero row p = p
column_filled w on v column (suc n) row p =
    column_filled w on v column n (suc row) (within (row * w + column) (row * w + column + 1) (filled on v) p)
