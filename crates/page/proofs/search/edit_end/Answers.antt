-- `page::search::edit_end` meets its contract.
use native.Mathlib.Omega.{arith}
use Rattle.rules.proofs.Rows.{columns_width, row_inside, row_after_lem}
use Rattle.page.proofs.search.edit_end.Goals as goal

pub first_sought-requires : goal.first_sought-requires
first_sought-requires c =
    let x = c.args in
    let k = c.requires in
    omega (arith, row_after_lem (columns_width c.args.wide) x.at, row_inside (columns_width c.args.wide) x.at k.1)

pub returns : goal.returns
returns c = rw (← c.row_end.ensures) c.first_sought.ensures
