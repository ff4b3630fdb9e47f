-- `carry::writes::write` meets its contract. In each arm the write is the one that the match told.
use native.Mathlib.Omega.{arith}
use Rattle.rules.specs.Carry.{applied}
use Rattle.carry.proofs.writes.write.Goals as goal

pub fill_cells-requires : goal.fill_cells-requires
unfolding applied
fill_cells-requires c = omega (arith, rw c.in-Fill.is at c.requires.1)

pub fill_cells-requires-in-FillAll : goal.fill_cells-requires-in-FillAll
unfolding applied
fill_cells-requires-in-FillAll c = omega (arith, rw c.in-FillAll.is at c.requires.1)

pub fill_column-requires : goal.fill_column-requires
unfolding applied
fill_column-requires c =
    let good = rw c.in-Column.is at c.requires.1 in
    (good.0, (good.1.0, (good.1.1, c.requires.0)))

pub shift_edit_run-requires : goal.shift_edit_run-requires
unfolding applied
shift_edit_run-requires c = (c.requires.0, rw c.in-Edit.is at c.requires.1)

pub shift_rows-requires : goal.shift_rows-requires
unfolding applied
shift_rows-requires c =
    let good = rw c.in-Rows.is at c.requires.1 in
    (good.0, (good.1, c.requires.0))

pub returns-in-Nothing : goal.returns-in-Nothing
unfolding applied
returns-in-Nothing c = rw c.in-Nothing.is

pub returns-in-Fill : goal.returns-in-Fill
unfolding applied
returns-in-Fill c = rw c.in-Fill.is c.fill_cells.ensures

pub returns-in-FillAll : goal.returns-in-FillAll
unfolding applied
returns-in-FillAll c = rw c.in-FillAll.is c.fill_cells-in-FillAll.ensures

pub returns-in-Column : goal.returns-in-Column
unfolding applied
returns-in-Column c = rw c.in-Column.is c.fill_column.ensures

pub returns-in-Edit : goal.returns-in-Edit
unfolding applied
returns-in-Edit c = rw c.in-Edit.is c.shift_edit_run.ensures

pub returns-in-Rows : goal.returns-in-Rows
unfolding applied
returns-in-Rows c = rw c.in-Rows.is c.shift_rows.ensures
