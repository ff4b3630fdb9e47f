-- `saved::store::write_two` meets its contract.
use native.Mathlib.Omega.{arith}
use mathlib.Core.Path.{◌≡◌}
use Prim.Native.Nat.{◌%◌, ◌/◌}
use Rattle.saved.proofs.store.write_two.Goals as goal

pub returns : goal.returns
returns c =
    let h : c.args.n / 256 % 256 ≡ c.args.n / 256 = omega arith in
    rw (c.copy_from_slice.ensures.after, c.to_le_bytes.ensures, h)
