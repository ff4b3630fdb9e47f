-- `alert::put::count` meets its contract.
use Rattle.std.proofs.Common.{eq-eqb, ne_eqb}
use Rattle.alert.specs.Room.{count_of}
use Rattle.alert.proofs.Puts.{none, and}
use Rattle.alert.proofs.put.count.Goals as goal

pub returns-then-v-eq1 : goal.returns-then-v-eq1
unfolding count_of
returns-then-v-eq1 c =
    let decimal' = c.decimal-a in
    let byte' = c.byte-b in
    let bytes' = c.bytes-c in
    rw (eq-eqb _ _ c.if-v-eq1.true) (and (and (and decimal'.ensures byte'.ensures) bytes'.ensures) none)

pub returns : goal.returns
unfolding count_of
returns c =
    let decimal' = c.decimal-a in
    let byte' = c.byte-b in
    let bytes' = c.bytes-c in
    let t1 = c.if-v-eq1 in
    let byte2' = c.byte in
    rw (ne_eqb _ _ t1.false) (and (and (and decimal'.ensures byte'.ensures) bytes'.ensures) byte2'.ensures)
