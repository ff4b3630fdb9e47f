-- What a list of calls gives back with row lists: the list after each call, not the last alone.
use Rattle.std.specs.Prelude.{◌≡◌, List, [], ◌∷◌, ◌++◌, ℕ}
use Rattle.rules.specs.Possible.{blank}
use Rattle.rules.specs.Cases.Bench.{wy50}
use Rattle.rules.specs.Cases.Inputs.{esc, labelled}
use Rattle.rules.specs.RowCalls.{ListStep, ListRun, row_play}
use Rattle.rules.specs.Cases.RowCases.{open_rows}

-- a letter; a label in row 2, and protect mode on; a second label behind it
abbrev pub EachList : Type 0
EachList =
    (row_play (ListStep 0x41 0 ∷ ListRun (labelled 1 0 ++ esc 0x26) 0 ∷ ListRun (esc 0x29 ++ 0x42 ∷ []) 0 ∷ [])
    (record { page = blank; rows = open_rows 24; state = wy50 })).lists
    ≡ open_rows 24 ∷ (80 ∷ 1 ∷ 79 ∷ 2 ∷ open_rows 22) ∷ (80 ∷ 1 ∷ 78 ∷ 3 ∷ open_rows 22) ∷ []
