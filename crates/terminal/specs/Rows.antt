-- The row list beside a run of text.
use Rattle.std.specs.Prelude.{◌≡◌, ℕ, Bool, true, not, ◌⊎◌, List, length}
use Rattle.rules.specs.Cell.{both, either}
use Rattle.rules.specs.RowList.{row_list}

-- no cell has become guarded: the run took nothing (same), or not both of protect and write-protect mode are on (on, writes)
abbrev pub closed_none : Bool → Bool → Bool → Bool
closed_none same on writes = either same (not (both on writes))

-- no list, or one that is right if no cell has become guarded
abbrev pub Behind : Bool → ℕ → List Bool → List ℕ → Type 0
Behind right w g l = (length l ≡ 0) ⊎ ((length l ≡ 48) × (right ≡ true → l ≡ row_list w g))
