-- `mend::mend` meets its contract.
use mathlib.Core.Path.{refl, sym}
use native.Mathlib.Omega.{arith}
use lib.ListN.{length}
use Rattle.rules.proofs.Rows.{page_small}
use Rattle.rules.proofs.Fields.{page_of_lem}
use Rattle.mend.proofs.Call.{gives_no_page, gives_short, gives_mended, some_columns}
use Rattle.mend.proofs.mend.Goals as goal

pub returns-in_default : goal.returns-in_default
returns-in_default c = let x = c.args in gives_no_page x.personality x.page.now x.list.now c.in_default.ensures refl

pub damaged_count-needed-requires : goal.damaged_count-needed-requires
damaged_count-needed-requires c =
    let k = page_of_lem (length c.args.page.now) (sym c.in-Some.ensures) (some_columns c.in-Some.wide) in
    omega (arith, k.1, page_small k.0)

pub returns-then-list-needed : goal.returns-then-list-needed
returns-then-list-needed c =
    let x = c.args in
    gives_short x.personality x.page.now x.list.now c.in-Some.ensures (some_columns c.in-Some.wide) c.damaged_count-needed.ensures c.if-list-needed.true

pub mend_cells-requires : goal.mend_cells-requires
mend_cells-requires c =
    let k = page_of_lem (length c.args.page.now) (sym c.in-Some.ensures) (some_columns c.in-Some.wide) in
    (omega (arith, k.1, page_small k.0), omega (arith, c.damaged_count-needed.ensures, c.if-list-needed.false))

pub returns : goal.returns
returns c =
    let x = c.args in
    gives_mended x.personality x.page.now x.list.now c.in-Some.ensures (some_columns c.in-Some.wide) c.damaged_count-needed.ensures
    (omega (arith, c.if-list-needed.false)) c.mend_cells.ensures.cells c.mend_cells.ensures.listed
