-- Our own proposer (document 02, A12): its spans, its bytes, which pages it serves, and what it answers.
use Rattle.std.specs.Prelude.{◌≡◌, ℕ, suc, ◌+◌, ◌-◌, ◌/◌, ◌%◌, Bool, true, not, List, [], ◌∷◌, ◌++◌, map, length, ◌==◌, nat_le, nat_lt, slice_index}
use Rattle.std.specs.Prelude.{Result, Ok, Err}
use Rattle.rules.specs.declared.Personality.{Personality}
use Rattle.rules.specs.Cell.{pick, both, between, code, normal}
use Rattle.rules.specs.Row.{addressed, narrow_cells, row_of, column_of}
use Rattle.rules.specs.Room.{over}
use Rattle.rules.specs.Fields.{is_page}
use Rattle.rules.specs.Possible.{remembered_ok}
use Rattle.repaint.specs.declared.Counts.{Counts}
use Rattle.repaint.specs.declared.ProposeRefusal.{ProposeRefusal}
use Rattle.repaint.specs.declared.ProposeResult.{ProposeResult}
use Rattle.repaint.specs.declared.Span.{Span}

-- ---- "the longest stretches of differing cells in a row"

-- cells of one row: the first, counted from 0 over the page, and what they should show
pub record Stretch : Type 0 where
  pub start : ℕ
  pub cells : List ℕ

abbrev pub stretch : ℕ → List ℕ → Stretch
stretch start cells = record { start = start; cells = cells }

-- the cell `at` is the last of its row
abbrev pub ends_row : ℕ → Bool
ends_row at = suc at % addressed == 0

-- a differing cell goes before the stretch that begins at the next cell of its row, or is a stretch of its own
unfoldable pub lengthened : ℕ → ℕ → List Stretch → List Stretch
lengthened at v [] = stretch at (v ∷ []) ∷ []
lengthened at v (s ∷ l) = pick (both (s.start == suc at) (not (ends_row at))) (stretch at (v ∷ s.cells) ∷ l) (stretch at (v ∷ []) ∷ (s ∷ l))

-- `at` is the place of the lists' first cells
unfoldable pub differing : ℕ → List ℕ → List ℕ → List Stretch
differing at [] b = []
differing at (x ∷ a) [] = []
differing at (x ∷ a) (y ∷ b) = let t = differing (suc at) a b in pick (x == y) t (lengthened at y t)

-- "each a row, first column and length"
abbrev pub span_of : Stretch → Span
span_of s = record { row = row_of addressed s.start + 1; column = column_of addressed s.start + 1; size = length s.cells }

-- ---- "its bytes ESC = to each start, then the cells, ESC G just before each whose attribute is not the remembered one"

-- the attribute of a cell of text, and its code for ESC G: 30h and the flags, with dim 70h and the flags
abbrev pub shown_as : ℕ → ℕ
shown_as v = v / 1024

unfoldable pub attribute_code : ℕ → ℕ
attribute_code a = pick (nat_lt a 16) (0x30 + a) (0x70 + (a - 16))

-- a cell, a being the attribute remembered; and cells, each remembering its own
unfoldable pub cell_bytes : ℕ → ℕ → List ℕ
cell_bytes a v = pick (shown_as v == a) (code v ∷ []) (0x1b ∷ 0x47 ∷ attribute_code (shown_as v) ∷ code v ∷ [])

unfoldable pub cells_bytes : ℕ → List ℕ → List ℕ
cells_bytes a [] = []
cells_bytes a (v ∷ l) = cell_bytes a v ++ cells_bytes (shown_as v) l

-- the attribute remembered after some cells
unfoldable pub last_shown : ℕ → List ℕ → ℕ
last_shown a [] = a
last_shown a (v ∷ l) = last_shown (shown_as v) l

unfoldable pub start_bytes : ℕ → List ℕ
start_bytes at = 0x1b ∷ 0x3d ∷ (0x20 + row_of addressed at) ∷ (0x20 + column_of addressed at) ∷ []

unfoldable pub stretch_bytes : ℕ → Stretch → List ℕ
stretch_bytes a s = start_bytes s.start ++ cells_bytes a s.cells

-- the attribute goes on from stretch to stretch
unfoldable pub stretches_bytes : ℕ → List Stretch → List ℕ
stretches_bytes a [] = []
stretches_bytes a (s ∷ l) = stretch_bytes a s ++ stretches_bytes (last_shown a s.cells) l

-- ---- the pages that it serves

-- "unprotected text of code 20h to 7Eh written by that personality"
unfoldable pub is_text : Personality → ℕ → Bool
is_text m v = both (remembered_ok m (shown_as v)) (between 0x20 0x7e (v % 1024))

unfoldable pub all_text : Personality → List ℕ → Bool
all_text m [] = true
all_text m (v ∷ l) = both (is_text m v) (all_text m l)

-- "both pages are 80 wide, hold only" such text, "and end in equal cells"
unfoldable pub served : Personality → List ℕ → List ℕ → Bool
served m a b =
    both (both (length a == narrow_cells) (length b == narrow_cells))
    (both (both (all_text m a) (all_text m b)) (slice_index a 1919 == slice_index b 1919))

-- ---- the call

-- the stretches from a to b, their spans as three lists, and their bytes; the remembered attribute is normal at power-on
abbrev pub stretches : List ℕ → List ℕ → List Stretch
stretches a b = differing 0 a b

abbrev pub rows_of : List Stretch → List ℕ
rows_of l = map (λ s. (span_of s).row) l

abbrev pub columns_of : List Stretch → List ℕ
columns_of l = map (λ s. (span_of s).column) l

abbrev pub lengths_of : List Stretch → List ℕ
lengths_of l = map (λ s. (span_of s).size) l

abbrev pub paint_bytes : List ℕ → List ℕ → List ℕ
paint_bytes a b = stretches_bytes normal (stretches a b)

-- the answer, how many spans and bytes there are, and the four lent lists
pub record Proposed : Type 0 where
  pub answer : ℕ
  pub spans : ℕ
  pub bytes : ℕ
  pub rows : List ℕ
  pub columns : List ℕ
  pub lengths : List ℕ
  pub out : List ℕ

abbrev pub refused_with : ℕ → List ℕ → List ℕ → List ℕ → List ℕ → Proposed
refused_with n rows columns lengths out = record { answer = n; spans = 0; bytes = 0; rows = rows; columns = columns; lengths = lengths; out = out }

-- n spans fit into three lists, and k bytes into a fourth
abbrev pub fitting : ℕ → ℕ → List ℕ → List ℕ → List ℕ → List ℕ → Bool
fitting n k rows columns lengths out =
    both (both (nat_le n (length rows)) (both (nat_le n (length columns)) (nat_le n (length lengths)))) (nat_le k (length out))

-- "other pages answer 3, too little room 6, in the order 7, 3, 6, nothing written"; else spans and bytes stand at the front, "the rooms' rest
-- untouched"
unfoldable pub propose_rule : Personality → List ℕ → List ℕ → List ℕ → List ℕ → List ℕ → List ℕ → Proposed
propose_rule m a b rows columns lengths out =
    let l = stretches a b in
    let bytes = paint_bytes a b in
    let done : Proposed = record {
      answer = 0;
      spans = length l;
      bytes = length bytes;
      rows = over (rows_of l) rows;
      columns = over (columns_of l) columns;
      lengths = over (lengths_of l) lengths;
      out = over bytes out;
    } in
    pick (both (length a == length b) (is_page (length a)))
    (pick (served m a b)
    (pick (fitting (length l) (length bytes) rows columns lengths out) done (refused_with 6 rows columns lengths out))
    (refused_with 3 rows columns lengths out)) (refused_with 7 rows columns lengths out)

-- the paper's number of each refusal
abbrev pub refusal_number : ProposeRefusal → ℕ
refusal_number ProposeRefusal.WrongLength = 7
refusal_number ProposeRefusal.NotServed = 3
refusal_number ProposeRefusal.NoRoom = 6

-- the answer in numbers
abbrev pub told : Result Counts ProposeRefusal → ProposeResult
told (Ok n) = record { answer = 0; spans = n.spans; bytes = n.bytes }
told (Err e) = record { answer = refusal_number e; spans = 0; bytes = 0 }

-- what a call gives that leaves these lists
pub record Proposes (o : Proposed) (r : ProposeResult) (x y z w : List ℕ) : Type 0 where
  pub answer : r.answer ≡ o.answer
  pub spans : r.spans ≡ o.spans
  pub bytes : r.bytes ≡ o.bytes
  pub rows : x ≡ o.rows
  pub columns : y ≡ o.columns
  pub lengths : z ≡ o.lengths
  pub out : w ≡ o.out
