-- The cells that a command may change: an area of the page, by the screen and the modes before the byte.
use Rattle.std.specs.Prelude.{Bool, true, false, not, ℕ, ◌+◌, ◌-◌, ltb, leb, eqb}
use Rattle.rules.specs.declared.Screen.{Screen}
use Rattle.rules.specs.declared.Modes.{Modes}
use Rattle.rules.specs.Cell.{pick, both, either}
use Rattle.rules.specs.Row.{column_of, row_start, row_end}
use Rattle.rules.specs.State.{width_of, segment_start, segment_end, cursor_of}
use Rattle.rules.specs.Plan.{scrolls, at_top}

-- no cell; the cursor's; from it to the end of its row, or of the segment; its row and those below it; its column of the segment; the segment; one of
-- two, by a test
pub data Area : Type 0 where
  None : Area
  Cell : Area
  Line : Area
  Rest : Area
  Rows : Area
  Column : Area
  Segment : Area
  If : (Screen → Modes → Bool) → Area → Area → Area

-- its first cell, and the one past its last
abbrev pub area_from : Area → Screen → Modes → ℕ
area_from None x m = cursor_of x
area_from Cell x m = cursor_of x
area_from Line x m = cursor_of x
area_from Rest x m = cursor_of x
area_from Rows x m = row_start (width_of x) (cursor_of x)
area_from Column x m = segment_start x + column_of (width_of x) (cursor_of x)
area_from Segment x m = segment_start x
area_from (If t a b) x m = pick (t x m) (area_from a x m) (area_from b x m)

abbrev pub area_to : Area → Screen → Modes → ℕ
area_to None x m = cursor_of x
area_to Cell x m = cursor_of x + 1
area_to Line x m = row_end (width_of x) (cursor_of x)
area_to Rest x m = segment_end x
area_to Rows x m = segment_end x
area_to Column x m = segment_end x - width_of x + column_of (width_of x) (cursor_of x) + 1
area_to Segment x m = segment_end x
area_to (If t a b) x m = pick (t x m) (area_to a x m) (area_to b x m)

-- its only column, counted from 1; 0: it has cells of others too
abbrev pub one_column : Area → Screen → ℕ
one_column None x = 0
one_column Cell x = 0
one_column Line x = 0
one_column Rest x = 0
one_column Rows x = 0
one_column Column x = column_of (width_of x) (cursor_of x) + 1
one_column Segment x = 0
one_column (If t a b) x = 0

-- a cell is not in it
abbrev pub outside : Area → Screen → Modes → ℕ → Bool
outside a x m i =
    either (ltb i (area_from a x m))
    (either (leb (area_to a x m) i) (both (ltb 0 (one_column a x)) (not (eqb (column_of (width_of x) i + 1) (one_column a x)))))

-- ---- the areas of what may scroll

-- a store scrolls the segment up past its last cell, 0Ah and 1Fh from its bottom row; ESC j scrolls it down from its top row
abbrev pub store_scrolls : Screen → Modes → Bool
store_scrolls x m = both (leb (segment_end x) (cursor_of x + 1)) (scrolls m)

abbrev pub down_scrolls : Screen → Modes → Bool
down_scrolls x m = both (leb (segment_end x) (cursor_of x + width_of x)) (scrolls m)

abbrev pub up_scrolls : Screen → Modes → Bool
up_scrolls x m = both (at_top x) (not m.protect)

-- a store writes the cursor's cell, in insert mode its row from there
abbrev pub stored : Area
stored = If store_scrolls Segment (If (λ x m. m.insert) Line Cell)
