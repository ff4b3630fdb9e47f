-- Worked cases of row lists (document 02, A5).
use Rattle.std.specs.Prelude.{Bool, true, false, List, [], ◌∷◌, ◌++◌, ℕ, zero, suc, replicate}
use Rattle.rules.specs.declared.State.{State}
use Rattle.rules.specs.Cell.{both, same}
use Rattle.rules.specs.Possible.{blank}
use Rattle.rules.specs.Calls.{Run, Press}
use Rattle.rules.specs.Cases.Bench.{wy50, answers}
use Rattle.rules.specs.Cases.Inputs.{esc, go_to, labelled, page_of, protect_at}
use Rattle.rules.specs.RowCalls.{Session, RowCall, Bare, ListStep, ListRun, Next, Rebuild, RowPlayed, row_play}

-- n rows with the same two numbers; n open rows of 80 columns
unfoldable pub rows_with : ℕ → ℕ → ℕ → List ℕ
rows_with count first zero = []
rows_with count first (suc n) = count ∷ first ∷ rows_with count first n

unfoldable pub open_rows : ℕ → List ℕ
open_rows n = rows_with 80 1 n

-- calls from a page, a list and a state; their answers, and the list after them
pub data RowCase : Type 0 where
  from : List ℕ → List ℕ → State → List RowCall → List ℕ → List ℕ → RowCase

unfoldable pub row_holds : RowPlayed → List ℕ → List ℕ → Bool
row_holds r a l = both (same (answers r.given) a) (same r.session.rows l)

unfoldable pub row_cases_hold : List RowCase → Bool
row_cases_hold [] = true
row_cases_hold (from p l s calls a after ∷ cs) =
    both (row_holds (row_play calls (record { page = p; rows = l; state = s })) a after) (row_cases_hold cs)

-- from power-on, with its list
unfoldable pub from_power_on : List RowCall → List ℕ → List ℕ → RowCase
from_power_on calls a after = from blank (open_rows 24) wy50 calls a after

unfoldable pub row_cases : List RowCase
row_cases =
    -- the list of a page: protect off, every row has 80 open cells from column 1 on, protected ones too
    from blank (replicate 48 7) wy50 (Rebuild ∷ []) (0 ∷ []) (open_rows 24)
    ∷ from (page_of (replicate 3 206)) (replicate 48 0) wy50 (Rebuild ∷ []) (0 ∷ []) (open_rows 24)
    -- protect on: row 1 open from column 3 on, row 2 not at all, row 3 only in its last column
    ∷ from (page_of (206 ∷ 206 ∷ replicate 78 0 ++ replicate 159 160)) (replicate 48 0) (protect_at 0) (Rebuild ∷ []) (0 ∷ [])
    (78 ∷ 3 ∷ 0 ∷ 0 ∷ 1 ∷ 80 ∷ open_rows 21)
    -- an open cell between two guarded ones
    ∷ from (page_of (206 ∷ 65 ∷ 206 ∷ [])) (replicate 48 0) (protect_at 1) (Rebuild ∷ []) (0 ∷ []) (78 ∷ 2 ∷ open_rows 23)
    -- the rebuild: 47 and 49 numbers, a page of 1,919 cells and an impossible state answer 7, and the list is left
    ∷ from blank (replicate 47 7) wy50 (Rebuild ∷ []) (7 ∷ []) (replicate 47 7)
    ∷ from blank (replicate 49 7) wy50 (Rebuild ∷ []) (7 ∷ []) (replicate 49 7)
    ∷ from (replicate 1919 0) (replicate 48 7) wy50 (Rebuild ∷ []) (7 ∷ []) (replicate 48 7)
    ∷ from blank (replicate 48 7) (protect_at 1920) (Rebuild ∷ []) (7 ∷ []) (replicate 48 7)
    -- a step and a run with the list: text leaves it
    ∷ from_power_on (ListStep 0x41 0 ∷ ListRun (0x42 ∷ 0x43 ∷ []) 0 ∷ []) (0 ∷ 0 ∷ []) (open_rows 24)
    -- `next` with it, or with none, which leaves it behind
    ∷ from_power_on (Next true (labelled 1 0 ++ esc 0x26 ++ 0xe9 ∷ esc 0x27) 0 ∷ []) (1 ∷ []) (80 ∷ 1 ∷ 79 ∷ 2 ∷ open_rows 22)
    ∷ from_power_on (Next false (labelled 1 0 ++ esc 0x26) 0 ∷ ListRun [] 0 ∷ []) (0 ∷ 7 ∷ []) (open_rows 24)
    ∷ from blank (79 ∷ 1 ∷ open_rows 23) wy50 (Next true (0x41 ∷ []) 0 ∷ Next false (0x41 ∷ []) 0 ∷ []) (7 ∷ 0 ∷ []) (79 ∷ 1 ∷ open_rows 23)
    ∷ from blank [] wy50 (Next true (0x41 ∷ 0xe9 ∷ []) 0 ∷ []) (1 ∷ []) []
    ∷ from blank (open_rows 25) wy50 (Next true (0x41 ∷ []) 0 ∷ []) (7 ∷ []) (open_rows 25)
    -- a label, ESC & and ESC ': the list follows protect mode
    ∷ from_power_on (ListRun (labelled 1 0 ++ esc 0x26) 0 ∷ []) (0 ∷ []) (80 ∷ 1 ∷ 79 ∷ 2 ∷ open_rows 22)
    ∷ from_power_on (ListRun (labelled 1 0 ++ esc 0x26 ++ esc 0x27) 0 ∷ []) (0 ∷ []) (open_rows 24)
    -- protect and write-protect on: a store closes its cell
    ∷ from_power_on (ListRun (esc 0x26 ++ esc 0x29 ++ 0x41 ∷ []) 0 ∷ ListStep 0x42 0 ∷ []) (0 ∷ 0 ∷ []) (78 ∷ 3 ∷ open_rows 23)
    ∷ from_power_on (ListRun (esc 0x26 ++ esc 0x29 ++ go_to 23 79 ++ 0x41 ∷ []) 0 ∷ []) (0 ∷ []) (open_rows 23 ++ 79 ∷ 1 ∷ [])
    -- ESC V closes a column; ESC , turns protect mode off, and after ESC & no cell is open
    ∷ from_power_on (ListRun (esc 0x26 ++ esc 0x56) 0 ∷ []) (0 ∷ []) (rows_with 79 2 24)
    ∷ from_power_on (ListRun (esc 0x26 ++ esc 0x2c) 0 ∷ []) (0 ∷ []) (open_rows 24)
    ∷ from_power_on (ListRun (esc 0x2c ++ esc 0x26) 0 ∷ []) (0 ∷ []) (replicate 48 0)
    -- a refused byte leaves it, and it agrees
    ∷ from_power_on (ListStep 0xe9 0 ∷ ListStep 0x1b 0 ∷ ListStep 0x35 0 ∷ []) (1 ∷ 0 ∷ 6 ∷ []) (open_rows 24)
    -- one that disagrees: 7 to the step and to the run, over no bytes too; the list is left, and a call without it is made all the same
    ∷ from blank (79 ∷ 1 ∷ open_rows 23) wy50 (ListStep 0x41 0 ∷ ListRun [] 0 ∷ Bare (Run (0x41 ∷ []) 0) ∷ []) (7 ∷ 7 ∷ 0 ∷ [])
    (79 ∷ 1 ∷ open_rows 23)
    ∷ from blank (80 ∷ 2 ∷ open_rows 23) wy50 (ListStep 0x41 0 ∷ []) (7 ∷ []) (80 ∷ 2 ∷ open_rows 23)
    ∷ from blank (open_rows 23) wy50 (ListStep 0x41 0 ∷ []) (7 ∷ []) (open_rows 23)
    ∷ from blank [] wy50 (ListStep 0x41 0 ∷ ListRun [] 0 ∷ []) (7 ∷ 7 ∷ []) []
    ∷ from blank (open_rows 25) wy50 (ListRun (0x41 ∷ []) 0 ∷ []) (7 ∷ []) (open_rows 25)
    -- a call without the list leaves it behind, and the next one with it answers 7 until the rebuild
    ∷ from_power_on (Bare (Run (labelled 0 0 ++ esc 0x26) 0) ∷ ListStep 0x41 0 ∷ Rebuild ∷ ListStep 0x41 0 ∷ []) (0 ∷ 7 ∷ 0 ∷ 0 ∷ [])
    (79 ∷ 2 ∷ open_rows 23)
    -- a key press takes none
    ∷ from_power_on (Bare (Press 0x40 8) ∷ ListStep 0x41 0 ∷ []) (0 ∷ 0 ∷ []) (open_rows 24)
    -- a bad page with its own list, a state that is not possible: 7
    ∷ from (replicate 1919 0) (open_rows 23 ++ 79 ∷ 1 ∷ []) wy50 (ListStep 0x41 0 ∷ []) (7 ∷ []) (open_rows 23 ++ 79 ∷ 1 ∷ [])
    ∷ from blank (open_rows 24) (protect_at 1920) (ListRun [] 0 ∷ []) (7 ∷ []) (open_rows 24)
    ∷ []
