-- What fields are: the statements. A page p of width w has 24 rows.
use Rattle.std.specs.Prelude.{◌≡◌, Bool, true, false, List, [], ◌∷◌, map, ◌⊎◌, ℕ, suc, ◌-◌, ◌*◌, ◌≤◌, ◌<◌, ltb, length, get_or}
use Rattle.std.proofs.Math.Seq.{slice}
use Rattle.rules.specs.declared.Place.TheVariants as Place
use Rattle.rules.specs.Cell.{pick, sent}
use Rattle.rules.specs.Row.{Width, height, row_of, column_of, row_end}
use Rattle.rules.specs.Send.{left_out, bytes_of, text_at}
use Rattle.rules.specs.Fields.{page_width, field_starts, is_field_start, field_end, next_start, position, position_rule, cell_rule}

abbrev pub protected_in : List ℕ → ℕ → Bool
protected_in p i = left_out true (get_or p i 0)

-- the cells a up to, not including, e are a longest stretch within one row that are not protected
pub record LongestStretch (w : ℕ) (p : List ℕ) (a e : ℕ) : Type 0 where
  pub some : a < e
  pub within : e ≤ row_end w a
  pub unprotected : (i : ℕ) → a ≤ i → i < e → protected_in p i ≡ false
  pub first : (column_of w a ≡ 0) ⊎ (protected_in p (a - 1) ≡ true)
  pub last : (e ≡ row_end w a) ⊎ (protected_in p e ≡ true)

-- each field is one
abbrev pub FieldsAreStretches : Type 0
FieldsAreStretches =
    (w : ℕ) (p : List ℕ) → Width w → length p ≡ 24 * w → (a : ℕ) → is_field_start w p a ≡ true → LongestStretch w p a (field_end w p a)

-- each cell that is not protected is in one
pub record InField (w : ℕ) (p : List ℕ) (i : ℕ) : Type 0 where
  pub start : ℕ
  pub starts : is_field_start w p start ≡ true
  pub from : start ≤ i
  pub below : i < field_end w p start

abbrev pub CellsAreInFields : Type 0
CellsAreInFields = (w : ℕ) (p : List ℕ) → Width w → length p ≡ 24 * w → (i : ℕ) → i < length p → protected_in p i ≡ false → InField w p i

-- the next field is the first that starts at the place or behind it
pub record FirstFrom (w : ℕ) (p : List ℕ) (from at : ℕ) : Type 0 where
  pub behind : from ≤ at
  pub starts : at < length p → is_field_start w p at ≡ true
  pub none : (i : ℕ) → from ≤ i → i < at → is_field_start w p i ≡ false

abbrev pub NextIsFirst : Type 0
NextIsFirst = (w : ℕ) (p : List ℕ) (from : ℕ) → FirstFrom w p from (next_start w p from)

-- a cell's row and column lead back to it, and a row and column to themselves
pub record RoundTrip (n w : ℕ) : Type 0 where
  pub cell : (at : ℕ) → at < n → cell_rule n (row_of w at) (column_of w at) ≡ at
  pub place : (row column : ℕ) → row < height → column < w → position_rule n (cell_rule n row column) ≡ position 0 row column

abbrev pub PlacesGoRound : Type 0
PlacesGoRound = (n : ℕ) → (page_width n ≡ 0 → ⊥) → RoundTrip n (page_width n)

-- ---- as ESC 5 sends them

-- a byte put before the first of some texts
unfoldable pub onto : ℕ → List (List ℕ) → List (List ℕ)
onto b [] = (b ∷ []) ∷ []
onto b (t ∷ ts) = (b ∷ t) ∷ ts

-- what is sent, cut at FS, US and CR; and of the pieces those that are not empty
unfoldable pub cut_up : List ℕ → List (List ℕ)
cut_up [] = [] ∷ []
cut_up (b ∷ l) = pick (ltb b 0x20) ([] ∷ cut_up l) (onto b (cut_up l))

unfoldable pub filled : List (List ℕ) → List (List ℕ)
filled [] = []
filled ([] ∷ ts) = filled ts
filled ((b ∷ t) ∷ ts) = (b ∷ t) ∷ filled ts

-- the texts of the fields of some cells in order: the first cell is `at`, and m says where fields start
unfoldable pub texts_from : ℕ → List ℕ → ℕ → List Bool → List (List ℕ)
texts_from w p at [] = []
texts_from w p at (b ∷ m) = pick b (map sent (slice at (field_end w p at) p) ∷ texts_from w p (suc at) m) (texts_from w p (suc at) m)

-- over whole rows, from cell a up to, not including, e, the pieces of ESC 5 are the fields
abbrev pub PiecesAreFields : Type 0
PiecesAreFields =
    (w : ℕ) (p : List ℕ) → Width w → length p ≡ 24 * w → (a e : ℕ) → a ≤ e → e ≤ length p → column_of w a ≡ 0 → column_of w e ≡ 0
    → (segment : Bool)
    → filled (cut_up (bytes_of (text_at w p e false segment (Place.Cell a)))) ≡ texts_from w p a (slice a e (field_starts w p))
