-- `carry::writes::keep_list` meets its contract.
use native.Mathlib.Omega.{arith}
use Rattle.page.proofs.RowList.{listed_length}
use Rattle.carry.proofs.writes.keep_list.Goals as goal

pub rebuild-requires : goal.rebuild-requires
rebuild-requires c = (c.requires.0, listed_length _ _ c.requires.1 (grind arith))
