-- `page::text::send_text` meets its contract.
use mathlib.Core.Path.{sym, ◌∙◌}
use native.Mathlib.Omega.{arith}
use lib.ListN.{length-set}
use Rattle.rules.proofs.Rows.{columns_width}
use Rattle.rules.specs.Row.{columns}
use Rattle.page.proofs.Sends.{go_us, go_cr}
use Rattle.page.proofs.text.send_text.Goals as goal

pub send_rows-requires : goal.send_rows-requires
send_rows-requires c = (rw c.in-Cell.is at c.requires.0, (c.requires.1.0, (c.requires.1.1.0, omega arith)))

pub bounds-room-0 : goal.bounds-room-0
bounds-room-0 c = c.requires.1.1.1

pub send_rows-requires-in-Break : goal.send_rows-requires-in-Break
send_rows-requires-in-Break c = (
  (rw c.in-Break.is at c.requires.0).1,
  (c.requires.1.0, (c.requires.1.1.0, omega (arith, c.requires.1.1.1, length-set c.args.room.now 0 0x1f))),
)

pub bounds-room-0-in-Return : goal.bounds-room-0-in-Return
bounds-room-0-in-Return c = c.requires.1.1.1

pub returns-in-Cell : goal.returns-in-Cell
returns-in-Cell c = rw c.in-Cell.is c.send_rows.ensures

pub returns-in-Break : goal.returns-in-Break
returns-in-Break c =
    let x = c.args in
    let g = rw c.in-Break.is at c.requires.0 in
    rw c.in-Break.is
    (c.send_rows-in-Break.ensures
    ∙ sym (go_us (columns x.wide) x.page.now x.to x.all x.segment _ x.room.now (columns_width c.args.wide) c.requires.1.0 g.0 g.1
    c.requires.1.1.1))

pub returns-in-Return : goal.returns-in-Return
returns-in-Return c =
    let x = c.args in
    rw c.in-Return.is (go_cr (columns x.wide) x.page.now x.to x.all x.segment 0 x.room.now c.requires.1.1.1)
