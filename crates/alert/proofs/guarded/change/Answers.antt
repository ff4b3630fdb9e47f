-- `alert::guarded::change` meets its contract.
use Rattle.std.proofs.Common.{arith, eq-eqb, ne_eqb}
use Rattle.alert.specs.Guarded.{change_of}
use Rattle.alert.proofs.Puts.{and}
use Rattle.alert.proofs.guarded.change.Goals as goal

pub returns-then-at-end : goal.returns-then-at-end
unfolding change_of
returns-then-at-end c = rw (eq-eqb _ _ c.if-at-end.true) c.bytes.ensures

pub place-b-requires : goal.place-b-requires
unfolding change_of
place-b-requires c =
    omega (arith, c.requires, c.if-at-end.false)

pub returns : goal.returns
unfolding change_of
returns c =
    let t1 = c.if-at-end in
    let bytes2' = c.bytes-a in
    let place' = c.place-b in
    let bytes3' = c.bytes-2 in
    rw (ne_eqb _ _ t1.false) (and (and bytes2'.ensures place'.ensures) bytes3'.ensures)
