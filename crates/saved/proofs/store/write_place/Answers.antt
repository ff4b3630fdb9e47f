-- `saved::store::write_place` meets its contract.
use native.Mathlib.Omega.{arith}
use Rattle.saved.proofs.Running.{behind_two}
use Rattle.saved.proofs.store.write_place.Goals as goal

pub write_two-requires : goal.write_two-requires
write_two-requires c = omega (arith, c.requires.0)

pub put-requires : goal.put-requires
put-requires c = omega (arith, c.requires, c.write_two.auto.l)

pub returns : goal.returns
returns c =
    behind_two c.args.p.now
    c.args.bytes.now _ _
    c.write_two.ensures c.put.ensures.room
    (omega (arith, c.requires))
