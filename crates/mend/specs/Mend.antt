-- Mending a damaged saved page (document 02, A13).
use Rattle.std.specs.Prelude.{◌≡◌, List, [], ◌∷◌, ◌++◌, map, ℕ, suc, ◌+◌, ◌*◌, ◌/◌, leb, length, get_or, set, Result, Ok, Err}
use Rattle.std.proofs.lemmas.List.Edits.{sets}
use Rattle.rules.specs.declared.Personality.{Personality}
use Rattle.rules.specs.Cell.{pick, null}
use Rattle.rules.specs.Row.{row_of, column_of}
use Rattle.rules.specs.Room.{over}
use Rattle.rules.specs.Fields.{page_width, is_page}
use Rattle.rules.specs.Writable.{writable}
use Rattle.mend.specs.declared.Refusal.{Refusal}
use Rattle.mend.specs.declared.MendResult.{MendResult}

-- "unwritable ones, and no others, become unprotected nulls"
abbrev pub mended_cell : Personality → ℕ → ℕ
mended_cell m v = pick (writable m v) v null

unfoldable pub mended : Personality → List ℕ → List ℕ
mended m p = map (mended_cell m) p

-- each cell changed, by its place and its old number, "in reading order"; `at` is the place of the list's first cell
unfoldable pub damaged : Personality → ℕ → List ℕ → List (ℕ × ℕ)
damaged m at [] = []
damaged m at (v ∷ p) = let r = damaged m (suc at) p in pick (writable m v) r ((at, v) ∷ r)

-- "row, column, old number and new number of each": rows and columns count from 1, w is the page's width
abbrev pub numbers : ℕ → ℕ → ℕ → List ℕ
numbers row column old = row ∷ column ∷ old ∷ null ∷ []

abbrev pub entry : ℕ → ℕ × ℕ → List ℕ
entry w c = numbers (row_of w c.0 + 1) (column_of w c.0 + 1) c.1

unfoldable pub entries : ℕ → List (ℕ × ℕ) → List ℕ
entries w [] = []
entries w (c ∷ l) = entry w c ++ entries w l

-- the answer, "how many entries are needed", the page and the list
pub record Outcome : Type 0 where
  pub answer : ℕ
  pub needed : ℕ
  pub page : List ℕ
  pub list : List ℕ

abbrev pub outcome : ℕ → ℕ → List ℕ → List ℕ → Outcome
outcome a n p l = record { answer = a; needed = n; page = p; list = l }

-- 7 for "a length that neither width has"; 6, and nothing changed, "if the list is too short", four numbers being an entry; else the entries
-- stand at the front of the list, "its rest untouched"
unfoldable pub mend_rule : Personality → List ℕ → List ℕ → Outcome
mend_rule m p l =
    let d = damaged m 0 p in
    pick (is_page (length p))
    (pick (leb (length d) (length l / 4)) (outcome 0 (length d) (mended m p) (over (entries (page_width (length p)) d) l)) (outcome 6 (length d) p l))
    (outcome 7 0 p l)

-- what the mending of cell `at` makes of the page p, of the list l and of the n entries in it
pub record CellMended (m : Personality) (w at n : ℕ) (p l : List ℕ) (n' : ℕ) (p' l' : List ℕ) : Type 0 where
  pub cell : p' ≡ set p at (mended_cell m (get_or p at 0))
  pub listed : l' ≡ sets l (4 * n) (entries w (damaged m at (get_or p at 0 ∷ [])))
  pub count : n' ≡ n + length (damaged m at (get_or p at 0 ∷ []))

-- what a call gives, as the numbers that C holds
unfoldable pub mend_given : Result ℕ Refusal → MendResult
mend_given (Ok n) = record { answer = 0; needed = n }
mend_given (Err (Refusal.NoRoom n)) = record { answer = 6; needed = n }
mend_given (Err Refusal.BadCall) = record { answer = 7; needed = 0 }

-- what a call gives that leaves this page and this list
pub record Gives (o : Outcome) (r : MendResult) (p l : List ℕ) : Type 0 where
  pub answer : r.answer ≡ o.answer
  pub needed : r.needed ≡ o.needed
  pub page : p ≡ o.page
  pub list : l ≡ o.list
