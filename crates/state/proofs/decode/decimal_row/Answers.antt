-- `state::decode::decimal_row` meets its contract: fewer than 2 digits make less than 10, so the sums fit.
use Rattle.std.specs.Prelude.{ℕ, ◌^◌, ◌<◌}
use native.Mathlib.Nat.{pow-le-pow_right}
use native.Mathlib.Omega.{arith}
use Rattle.state.proofs.decode.decimal_row.Goals as goal

below_ten : (n v : ℕ) → n < 2 → v < 10 ^ n → v < 10
below_ten n v h k = omega (arith, pow-le-pow_right {n = 10} (omega arith) {i = n} {j = 1} (omega arith))

pub overflow_mul-result : goal.overflow_mul-result
overflow_mul-result c = omega (arith, below_ten c.args.n c.args.row c.if-n-lt2.true c.requires)

pub overflow_add-result-in-48-to-57 : goal.overflow_add-result-in-48-to-57
overflow_add-result-in-48-to-57 c = omega (arith, below_ten c.args.n c.args.row c.if-n-lt2.true c.requires)
