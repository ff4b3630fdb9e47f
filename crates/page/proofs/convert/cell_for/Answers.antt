-- `page::convert::cell_for` meets its contract.
use native.Mathlib.Omega.{arith}
use Rattle.page.proofs.Converting.{below, narrow_cell, null_cell, wide_cell, narrow_place, wide_place}
use Rattle.page.proofs.convert.cell_for.Goals as goal

pub overflow_mul-result : goal.overflow_mul-result
overflow_mul-result c = omega (arith, below c.args.wide c.args.i c.requires.1)

pub overflow_add-result : goal.overflow_add-result
overflow_add-result c = omega (arith, below c.args.wide c.args.i c.requires.1)

pub offset_bounds-page-i : goal.offset_bounds-page-i
offset_bounds-page-i c = omega (arith, below c.args.wide c.args.i c.requires.1)

pub bounds-page-i : goal.bounds-page-i
bounds-page-i c = narrow_place c.args.page.now c.args.wide c.args.i c.if-wide.true c.requires.0 c.requires.1

pub returns-then-wide : goal.returns-then-wide
returns-then-wide c = narrow_cell c.args.page.now c.args.wide c.args.i c.if-wide.true

pub returns-then-i-ge80 : goal.returns-then-i-ge80
returns-then-i-ge80 c = null_cell c.args.page.now c.args.wide c.args.i c.if-wide.false c.if-i-ge80.true

pub overflow_mul-result-2 : goal.overflow_mul-result-2
overflow_mul-result-2 c = omega (arith, below c.args.wide c.args.i c.requires.1)

pub overflow_add-result-2 : goal.overflow_add-result-2
overflow_add-result-2 c = omega (arith, below c.args.wide c.args.i c.requires.1)

pub offset_bounds-page-i-2 : goal.offset_bounds-page-i-2
offset_bounds-page-i-2 c = omega (arith, below c.args.wide c.args.i c.requires.1)

pub bounds-page-i-2 : goal.bounds-page-i-2
bounds-page-i-2 c = wide_place c.args.page.now c.args.wide c.args.i c.if-wide.false c.requires.0 c.requires.1 (omega (arith, c.if-i-ge80.false))

pub returns : goal.returns
returns c = wide_cell c.args.page.now c.args.wide c.args.i c.if-wide.false (omega (arith, c.if-i-ge80.false))
