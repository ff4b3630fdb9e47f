-- The guarded cells: how many there are, and whether one has changed since protect mode went on.
use Rattle.std.specs.Prelude.{ℕ, suc, Bool, true, List, [], ◌∷◌, ◌++◌, length, ◌==◌}
use Rattle.rules.specs.Cell.{pick, guarded}
use Rattle.counter.specs.Words.{words}
use Rattle.alert.specs.Room.{count_of, place_of}

-- how many cells are guarded
unfoldable pub guarded_cells : Bool → List ℕ → ℕ
guarded_cells on [] = 0
guarded_cells on (v ∷ p) = let n = guarded_cells on p in pick (guarded on v) (suc n) n

-- a cell that was guarded is as it was
abbrev pub kept : Bool → ℕ → ℕ → Bool
kept on was is = pick (guarded on was) (is == was) true

-- the first cell that was guarded and is not as it was, counted from `at`; past the last where there is none
unfoldable pub first_change : Bool → ℕ → List ℕ → List ℕ → ℕ
first_change on at [] is = at
first_change on at (x ∷ was) [] = at
first_change on at (x ∷ was) (y ∷ is) = let k = first_change on (suc at) was is in pick (kept on x y) k at

-- what is told of the guarded cells of a page; `drawn` is the page as it was when protect mode went on
unfoldable pub change_of : ℕ → ℕ → ℕ → List ℕ
change_of w at end =
    pick (at == end) (words ", none changed since protect mode went on\n")
    (words "; since protect mode went on the first that changed is at " ++ place_of w at ++ words "\n")

unfoldable pub guarded_line : ℕ → Bool → List ℕ → List ℕ → List ℕ
guarded_line w on drawn p =
    pick on
    (words "Guarded   " ++ count_of (guarded_cells on p) (words "cell") ++ change_of w (first_change on 0 drawn p) (length p))
    []
