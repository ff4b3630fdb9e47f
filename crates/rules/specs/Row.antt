-- Rows and columns, over the width of the page.
use Rattle.std.specs.Prelude.{ℕ, ◌+◌, ◌-◌, ◌*◌, ◌/◌, ◌%◌, ◌≤◌, ◌<◌, ◌≡◌, Bool, ◌⊎◌}
use Rattle.rules.specs.Cell.{pick}

-- the widths of pages
abbrev pub Width : ℕ → Type 0
Width w = (w ≡ 80) ⊎ (w ≡ 132)

-- how many columns a page has, wide or not; its rows are 24
unfoldable pub columns : Bool → ℕ
columns wide = pick wide 132 80

abbrev pub height : ℕ
height = 24

-- the cells of a narrow page and of a wide one, and the columns that ESC = and ESC - reach at either width
abbrev pub narrow_cells : ℕ
narrow_cells = 1920

abbrev pub wide_cells : ℕ
wide_cells = 3168

abbrev pub addressed : ℕ
addressed = 80

-- a cell's row and column, from 0; the first cell of its row, and the one past its last
abbrev pub row_of : ℕ → ℕ → ℕ
row_of w at = at / w

abbrev pub column_of : ℕ → ℕ → ℕ
column_of w at = at % w

abbrev pub row_start : ℕ → ℕ → ℕ
row_start w at = at - at % w

unfoldable pub row_end : ℕ → ℕ → ℕ
row_end w at = (at / w + 1) * w

-- where a cell lies that is in the rows `top` up to, not including, `bottom`: what follows of its row and column at either width
pub record Placed (w top bottom at : ℕ) : Type 0 where
  pub least : 80 ≤ w
  pub most : w ≤ 132
  pub page : bottom * w ≤ 24 * w
  pub row : top * w + w ≤ bottom * w
  pub column : at % w < w
  pub before : at % w ≤ at
  pub start : top * w ≤ at - at % w
  pub end : at - at % w + w ≤ bottom * w
  pub last : row_end w at ≡ at - at % w + w
  pub upper : top ≤ at / w
  pub lower : at / w < bottom
