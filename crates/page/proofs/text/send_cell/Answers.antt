-- `page::text::send_cell` meets its contract.
use mathlib.Core.Path.{sym, ◌∙◌}
use lib.ListN.{get_or}
use Rattle.page.proofs.Sends.{cell_open, cell_guarded}
use Rattle.page.proofs.text.send_cell.Goals as goal

pub returns-then-is_guarded : goal.returns-then-is_guarded
returns-then-is_guarded c =
    cell_guarded c.args.protect
    (get_or c.args.page.now c.args.at 0)
    c.args.room.now (sym c.is_guarded.ensures ∙ c.if-is_guarded.true)

pub bounds-room-0 : goal.bounds-room-0
bounds-room-0 c = c.requires.1.1

pub returns : goal.returns
returns c =
    rw c.sent_code.ensures
    (cell_open c.args.protect
    (get_or c.args.page.now
    c.args.at 0)
    c.args.room.now
    (sym c.is_guarded.ensures ∙ c.if-is_guarded.false)
    c.requires.1.1)
