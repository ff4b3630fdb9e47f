-- `carry::replies::send_short` meets its contract. In each arm the reply is the one that the match told.
use native.Mathlib.Omega.{arith}
use Rattle.rules.specs.Send.{short_reply, places}
use Rattle.rules.proofs.Rows.{columns_width, page_small}
use Rattle.rules.proofs.Screens.{screen_inside, active_most}
use Rattle.carry.proofs.Went.{cell_went, cursor_went, segment_went, decimal_went, cursor_below, row_below, column_below}
use Rattle.carry.proofs.replies.send_short.Goals as goal

pub cursor_row-row-requires : goal.cursor_row-row-requires
unfolding places short_reply
cursor_row-row-requires c = screen_inside _ c.requires.1.0

pub send_bytes-requires : goal.send_bytes-requires
unfolding places short_reply
send_bytes-requires c =
    let h = rw c.in-Acknowledge.is at c.requires.1.1.0 in
    (omega (arith, h), omega arith)

pub send_cell-requires : goal.send_cell-requires
unfolding places short_reply
send_cell-requires c =
    let k = cursor_below _ c.requires.1.0 c.cursor_of.ensures in
    (omega (arith, k, c.requires.0), (omega (arith, c.requires.0, page_small (columns_width c.args.core.screen.wide)), c.requires.1.1.1))

pub send_identity-requires : goal.send_identity-requires
unfolding places short_reply
send_identity-requires c =
    let h = rw c.in-Identity.is at c.requires.1.1.0 in
    omega (arith, h)

pub overflow_add-row : goal.overflow_add-row
unfolding places short_reply
overflow_add-row c = omega (arith, row_below _ c.requires.1.0 c.cursor_row-row.ensures)

pub overflow_add-column : goal.overflow_add-column
unfolding places short_reply
overflow_add-column c = omega (arith, column_below _ c.requires.1.0 c.cursor_column-column.ensures)

pub send_bytes-requires-in-Cursor : goal.send_bytes-requires-in-Cursor
unfolding places short_reply
send_bytes-requires-in-Cursor c =
    let h = rw c.in-Cursor.is at c.requires.1.1.0 in
    (omega (arith, h), omega arith)

pub overflow_add-x : goal.overflow_add-x
unfolding places short_reply
overflow_add-x c = omega (arith, active_most _ c.requires.1.0)

pub overflow_add-row-in-SegmentCursor : goal.overflow_add-row-in-SegmentCursor
unfolding places short_reply
overflow_add-row-in-SegmentCursor c = omega (arith, row_below _ c.requires.1.0 c.cursor_row-row.ensures)

pub overflow_add-column-in-SegmentCursor : goal.overflow_add-column-in-SegmentCursor
unfolding places short_reply
overflow_add-column-in-SegmentCursor c = omega (arith, column_below _ c.requires.1.0 c.cursor_column-column.ensures)

pub send_bytes-requires-in-SegmentCursor : goal.send_bytes-requires-in-SegmentCursor
unfolding places short_reply
send_bytes-requires-in-SegmentCursor c =
    let h = rw c.in-SegmentCursor.is at c.requires.1.1.0 in
    (omega (arith, h), omega arith)

pub overflow_add-row-in-DecimalCursor : goal.overflow_add-row-in-DecimalCursor
unfolding places short_reply
overflow_add-row-in-DecimalCursor c = omega (arith, row_below _ c.requires.1.0 c.cursor_row-row.ensures)

pub overflow_add-column-in-DecimalCursor : goal.overflow_add-column-in-DecimalCursor
unfolding places short_reply
overflow_add-column-in-DecimalCursor c = omega (arith, column_below _ c.requires.1.0 c.cursor_column-column.ensures)

pub send_decimal-requires : goal.send_decimal-requires
unfolding places short_reply
send_decimal-requires c =
    let h = rw c.in-DecimalCursor.is at c.requires.1.1.0 in
    omega (arith, h)

pub returns-in-Acknowledge : goal.returns-in-Acknowledge
unfolding places short_reply
returns-in-Acknowledge c = rw c.in-Acknowledge.is c.send_bytes.ensures

pub returns-in-Cell : goal.returns-in-Cell
unfolding places short_reply
returns-in-Cell c =
    let x = c.args in
    cell_went x.page.now x.core x.room.now x.from c.in-Cell.is c.requires.1.1.0 c.cursor_of.ensures
    c.send_cell.ensures

pub returns-in-Identity : goal.returns-in-Identity
unfolding places short_reply
returns-in-Identity c = rw c.in-Identity.is c.send_identity.ensures

pub returns-in-Cursor : goal.returns-in-Cursor
unfolding places short_reply
returns-in-Cursor c =
    let x = c.args in
    cursor_went x.page.now x.core x.room.now x.from c.cursor_row-row.ensures c.cursor_column-column.ensures
    c.in-Cursor.is c.send_bytes-in-Cursor.ensures

pub returns-in-SegmentCursor : goal.returns-in-SegmentCursor
unfolding places short_reply
returns-in-SegmentCursor c =
    let x = c.args in
    segment_went x.page.now x.core x.room.now x.from c.cursor_row-row.ensures c.cursor_column-column.ensures
    c.in-SegmentCursor.is c.send_bytes-in-SegmentCursor.ensures

pub returns-in-DecimalCursor : goal.returns-in-DecimalCursor
unfolding places short_reply
returns-in-DecimalCursor c =
    let x = c.args in
    decimal_went x.page.now x.core x.room.now x.from c.cursor_row-row.ensures c.cursor_column-column.ensures
    c.in-DecimalCursor.is c.send_decimal.ensures
