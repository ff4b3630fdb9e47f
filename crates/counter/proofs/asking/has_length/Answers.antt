-- `counter::asking::has_length` meets its contract.
use native.Mathlib.Omega.{arith}
use Rattle.terminal.proofs.Converting.{columns_most}
use Rattle.counter.proofs.asking.has_length.Goals as goal

pub overflow_mul-result : goal.overflow_mul-result
overflow_mul-result c = omega (arith, c.columns.ensures, columns_most c.args.wide)
