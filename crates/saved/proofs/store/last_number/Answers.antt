-- `saved::store::last_number` meets its contract.
use native.Mathlib.Omega.{arith}
use Rattle.saved.proofs.Running.{store_length}
use Rattle.saved.proofs.store.last_number.Goals as goal

pub two_at-requires : goal.two_at-requires
two_at-requires c = omega (arith, store_length c.args.store.now c.requires)
