-- `carry::writes::write_some` meets its contract.
use Rattle.rules.specs.Carry.{applied}
use Rattle.carry.proofs.writes.write_some.Goals as goal

pub returns-in-Nothing : goal.returns-in-Nothing
unfolding applied
returns-in-Nothing c = rw c.in-Nothing.is
