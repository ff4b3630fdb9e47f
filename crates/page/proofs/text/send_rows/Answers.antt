-- `page::text::send_rows` meets its contract. The loop: what goes from the next cell on is what goes from the first.
use native.Mathlib.Omega.{arith}
use Rattle.rules.proofs.Rows.{columns_width, row_after_lem, page_small}
use Rattle.page.proofs.Sends.{stopped, go_begin, go_end, go_stop, go_full, go_fits, go_return, go_break}
use Rattle.page.proofs.text.send_rows.Goals as goal

pub follows_left_out-after-requires : goal.follows_left_out-after-requires
follows_left_out-after-requires c = (omega (arith, c.requires), omega (arith, c.requires.1.1.0, page_small (columns_width c.args.wide)))

pub row_end-requires : goal.row_end-requires
row_end-requires c = omega (arith, c.requires)

pub overflow_sub-row_end : goal.overflow_sub-row_end
overflow_sub-row_end c = omega (arith, c.row_end.ensures, row_after_lem (columns_width c.args.wide) c.args.from)

pub cut-end-requires : goal.cut-end-requires
cut-end-requires c = (omega (arith, c.requires), omega (arith, c.requires, page_small (columns_width c.args.wide)))

pub loop-replied-init : goal.loop-replied-init
loop-replied-init c =
    go_begin (columns_width c.args.wide) c.requires.1.0 c.requires.0 c.requires.1.1.1 c.follows_left_out-after.ensures
    (rw c.row_end.ensures at c.cut-end.ensures)

pub send_row-row-requires : goal.send_row-row-requires
send_row-row-requires c = (
  omega (arith, c.loop-replied.invariant.some),
  (
    omega (arith, c.loop-replied.invariant.most, c.loop-replied.invariant.page),
    (omega (arith, c.requires.1.1.0, page_small (columns_width c.args.wide)), c.loop-replied.invariant.fits),
  ),
)

pub overflow_cast-at : goal.overflow_cast-at
overflow_cast-at c = omega (arith, c.if-at-end.true, c.loop-replied.invariant.most, c.loop-replied.invariant.page, c.requires.1.1.0, page_small (columns_width c.args.wide))

pub returns-then-at-end : goal.returns-then-at-end
returns-then-at-end c = stopped c.stop_at.ensures (go_stop c.loop-replied.invariant c.send_row-row.ensures c.if-at-end.true)

pub row_place-requires : goal.row_place-requires
row_place-requires c = omega (arith, c.loop-replied.invariant.most, c.loop-replied.invariant.page, c.requires.1.1.0, page_small (columns_width c.args.wide))

pub returns-then-replied-room : goal.returns-then-replied-room
returns-then-replied-room c =
    stopped c.stop_at-then-replied-room.ensures
    (rw c.row_place.ensures (go_full c.loop-replied.invariant c.send_row-row.ensures c.if-at-end.false c.if-replied-room.true))

pub bounds-room-replied : goal.bounds-room-replied
bounds-room-replied c = go_fits c.loop-replied.invariant c.send_row-row.ensures c.if-at-end.false c.if-replied-room.false

pub overflow_add-result : goal.overflow_add-result
overflow_add-result c = omega (arith, go_fits c.loop-replied.invariant c.send_row-row.ensures c.if-at-end.false c.if-replied-room.false)

pub returns-then-end-to : goal.returns-then-end-to
returns-then-end-to c = go_return c.loop-replied.invariant c.send_row-row.ensures c.if-at-end.false c.if-replied-room.false c.if-end-to.true

pub bounds-room-replied-in-loop-replied : goal.bounds-room-replied-in-loop-replied
bounds-room-replied-in-loop-replied c = go_fits c.loop-replied.invariant c.send_row-row.ensures c.if-at-end.false c.if-replied-room.false

pub overflow_add-replied : goal.overflow_add-replied
overflow_add-replied c = omega (arith, go_fits c.loop-replied.invariant c.send_row-row.ensures c.if-at-end.false c.if-replied-room.false)

pub cut-end-requires-in-loop-replied : goal.cut-end-requires-in-loop-replied
cut-end-requires-in-loop-replied c = (omega (arith, c.send_row-row.ensures.to, c.loop-replied.invariant.most), omega (arith, c.requires, page_small (columns_width c.args.wide)))

pub loop-replied-smaller : goal.loop-replied-smaller
loop-replied-smaller c = omega (arith, c.loop-replied.invariant.some, c.loop-replied.invariant.most, c.if-at-end.false, c.send_row-row.ensures.to)

pub loop-replied-preserved : goal.loop-replied-preserved
loop-replied-preserved c = go_break c.loop-replied.invariant c.send_row-row.ensures c.if-at-end.false c.if-replied-room.false c.if-end-to.false (rw c.columns.ensures at c.cut-end-in-loop-replied.ensures)

pub overflow_cast-at-2 : goal.overflow_cast-at-2
overflow_cast-at-2 c = omega (arith, c.loop-replied.invariant.some, c.loop-replied.invariant.most, c.loop-replied.invariant.page, c.requires.1.1.0, page_small (columns_width c.args.wide))

pub returns : goal.returns
returns c = stopped c.stop_at-2.ensures (go_end c.loop-replied.invariant c.loop-replied-test.false)
