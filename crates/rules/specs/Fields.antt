-- Fields, rows and places, for a program that reads a page. A field is a longest stretch of cells within one row that are not protected, whatever
-- protect mode says: what ESC 5 sends between its FS, US and CR.
use Rattle.std.specs.Prelude.{◌≡◌, Bool, true, false, not, List, [], ◌∷◌, map, ℕ, suc, ◌+◌, ◌-◌, ◌*◌, eqb, ltb, leb, length, get_or}
use Rattle.std.proofs.Math.Seq.{slice}
use Rattle.rules.specs.declared.Field.{Field}
use Rattle.rules.specs.declared.Position.{Position}
use Rattle.rules.specs.declared.TextResult.{TextResult}
use Rattle.rules.specs.Cell.{pick, both, either, sent}
use Rattle.rules.specs.Row.{height, narrow_cells, wide_cells, row_of, column_of, row_end}
use Rattle.rules.specs.Search.{which_cells, first_in}
use Rattle.rules.specs.Send.{left_out}
use Rattle.rules.specs.Room.{over}

-- a page's width, by its length; any other length is that of no page
unfoldable pub page_width : ℕ → ℕ
page_width n = pick (eqb n narrow_cells) 80 (pick (eqb n wide_cells) 132 0)

abbrev pub is_page : ℕ → Bool
is_page n = not (eqb (page_width n) 0)

-- ---- fields

-- which cells are protected: those that ESC 5 leaves out
abbrev pub protected_at : List ℕ → List Bool
protected_at p = which_cells (left_out true) p

-- a field starts at a cell that is not protected, and is the first of its row or follows a protected one. `at` is the place of the list's first cell,
-- and `after` says that the cell before it is protected
unfoldable pub starts_at : ℕ → ℕ → Bool → List Bool → List Bool
starts_at w at after [] = []
starts_at w at after (b ∷ m) = let t = starts_at w (suc at) b m in both (not b) (either (eqb (column_of w at) 0) after) ∷ t

abbrev pub field_starts : ℕ → List ℕ → List Bool
field_starts w p = starts_at w 0 true (protected_at p)

abbrev pub is_field_start : ℕ → List ℕ → ℕ → Bool
is_field_start w p at = get_or (field_starts w p) at false

-- it goes on to the next protected cell, or to the end of the row
abbrev pub field_end : ℕ → List ℕ → ℕ → ℕ
field_end w p at = first_in (protected_at p) at (row_end w at)

-- where the next field starts, at or behind `from`; not before the page's end where there is none
abbrev pub next_start : ℕ → List ℕ → ℕ → ℕ
next_start w p from = first_in (field_starts w p) from (length p)

abbrev pub field_at : ℕ → List ℕ → ℕ → Field
field_at w p at = record { start = at; size = field_end w p at - at; row = row_of w at; column = column_of w at }

abbrev pub no_field : Field
no_field = record { start = 0; size = 0; row = 0; column = 0 }

-- the next field, of any page
unfoldable pub next_field_rule : List ℕ → ℕ → Field
next_field_rule p from =
    let w = page_width (length p) in
    pick (is_page (length p)) (pick (ltb (next_start w p from) (length p)) (field_at w p (next_start w p from)) no_field) no_field

-- ---- texts

-- a byte before a text without trailing spaces, and a text without them
unfoldable pub kept : ℕ → List ℕ → List ℕ
kept b [] = pick (eqb b 0x20) [] (b ∷ [])
kept b (x ∷ l) = b ∷ x ∷ l

unfoldable pub trimmed : List ℕ → List ℕ
trimmed [] = []
trimmed (b ∷ l) = kept b (trimmed l)

-- the bytes that a send gives for the cells a up to, not including, e; trailing spaces dropped or not
unfoldable pub text_of : Bool → ℕ → ℕ → List ℕ → List ℕ
text_of trim a e p = pick trim (trimmed (map sent (slice a e p))) (map sent (slice a e p))

-- an answer, and the bytes that are put at the front of the room
pub record Told : Type 0 where
  pub answer : ℕ
  pub text : List ℕ

abbrev pub told : ℕ → List ℕ → Told
told n t = record { answer = n; text = t }

-- a text goes whole or not at all
unfoldable pub fitting : List ℕ → ℕ → Told
fitting t room = pick (leb (length t) room) (told 0 t) (told 6 [])

-- the text of the field that starts there: 7, 3, 6
unfoldable pub field_text_rule : List ℕ → ℕ → Bool → ℕ → Told
field_text_rule p at trim room =
    let w = page_width (length p) in
    pick (is_page (length p)) (pick (is_field_start w p at) (fitting (text_of trim at (field_end w p at) p) room) (told 3 [])) (told 7 [])

-- the text of a row, labels too: 7, 3, 6
unfoldable pub row_text_rule : List ℕ → ℕ → Bool → ℕ → Told
row_text_rule p row trim room =
    let w = page_width (length p) in
    pick (is_page (length p)) (pick (ltb row height) (fitting (text_of trim (row * w) (row * w + w) p) room) (told 3 [])) (told 7 [])

-- what a call gives that puts a text into the room w, which is w' then
pub record Read (o : Told) (r : TextResult) (w w' : List ℕ) : Type 0 where
  pub answer : r.answer ≡ o.answer
  pub counts : r.size ≡ length o.text
  pub room : w' ≡ over o.text w

-- ---- places, in a page of n cells

abbrev pub position : ℕ → ℕ → ℕ → Position
position answer row column = record { answer = answer; row = row; column = column }

-- a cell's row and column: 7, 3
unfoldable pub position_rule : ℕ → ℕ → Position
position_rule n at =
    let w = page_width n in
    pick (is_page n) (pick (ltb at n) (position 0 (row_of w at) (column_of w at)) (position 3 0 0)) (position 7 0 0)

-- the cell at a row and column; n where there is none
unfoldable pub cell_rule : ℕ → ℕ → ℕ → ℕ
cell_rule n row column =
    let w = page_width n in
    pick (both (is_page n) (both (ltb row height) (ltb column w))) (row * w + column) n
