-- `alert::cells::row` meets its contract.
use Rattle.std.proofs.Common.{arith, rules}
use Rattle.alert.proofs.Starting.{columns_most, row_within, row_is}
use Rattle.alert.proofs.cells.row.Goals as goal

pub overflow_mul-a : goal.overflow_mul-a
overflow_mul-a c =
    omega (arith, columns_most c.args.wide, row_within c.args.wide c.args.page.now c.args.r c.columns-n.ensures (omega arith))

pub slice_bounds-result-end : goal.slice_bounds-result-end
slice_bounds-result-end c =
    omega (arith, row_within c.args.wide c.args.page.now c.args.r c.columns-n.ensures (omega arith))

pub returns : goal.returns
returns c = (row_is c.args.wide c.args.page.now c.args.r c.columns-n.ensures, let m = columns_most c.args.wide in search rules)
