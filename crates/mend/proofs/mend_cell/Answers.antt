-- `mend::mend_cell` meets its contract.
use mathlib.Core.Path.{sym, ◌∙◌}
use native.Mathlib.Omega.{arith}
use Rattle.rules.specs.Row.{columns}
use Rattle.mend.proofs.Mending.{cell_stays, room_for_one, cell_changes}
use Rattle.mend.proofs.mend_cell.Goals as goal

pub returns-then-is_writable : goal.returns-then-is_writable
returns-then-is_writable c =
    let x = c.args in cell_stays x.personality (columns x.wide) x.at x.n x.page.now
    x.list.now (sym c.is_writable.ensures ∙ c.if-is_writable.true)

pub put_entry-requires : goal.put_entry-requires
put_entry-requires c =
    let x = c.args in
    let k = c.requires.1.1 in (
      omega (arith, k.0),
      room_for_one x.personality (columns x.wide) x.at x.n x.page.now x.list.now
          (sym c.is_writable.ensures ∙ c.if-is_writable.false) k.1,
    )

pub returns : goal.returns
returns c =
    let x = c.args in
    cell_changes x.personality (columns x.wide) x.at x.n x.page.now x.list.now
    (sym c.is_writable.ensures
    ∙ c.if-is_writable.false) (omega (arith, c.row_of.ensures)) (omega (arith, c.column_of.ensures)) c.put_entry.ensures
