-- `alert::put::place` meets its contract.
use Rattle.alert.specs.Room.{place_of}
use Rattle.alert.proofs.Puts.{and}
use Rattle.alert.proofs.Texts.{place_small}
use Rattle.std.proofs.Common.{arith, sym}
use Rattle.alert.proofs.put.place.Goals as goal

pub overflow_add-row_of : goal.overflow_add-row_of
overflow_add-row_of c = omega (arith, c.row_of.ensures, place_small c.args.wide c.requires)

pub overflow_add-column_of : goal.overflow_add-column_of
overflow_add-column_of c = omega (arith, c.column_of.ensures, place_small c.args.wide c.requires)

pub returns : goal.returns
unfolding place_of
returns c =
    rw (sym c.row_of.ensures, sym c.column_of.ensures)
    (and (and (and c.bytes-a.ensures c.decimal-b.ensures) c.bytes-c.ensures) c.decimal.ensures)
