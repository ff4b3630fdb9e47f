-- `alert::stream::pieces` meets its contract. The loop: some bytes have brought about what is there; what is lent keeps its length.
use Rattle.std.proofs.Common.{refl, arith, rules}
use Rattle.alert.proofs.Watching.{fed_none, fed_more}
use Rattle.alert.proofs.stream.pieces.Goals as goal

pub loop-i-init : goal.loop-i-init
loop-i-init g c = (fed_none refl, search rules)

pub loop-i-preserved : goal.loop-i-preserved
loop-i-preserved g c =
    let l = c.loop-i in
    (fed_more (omega (arith, l.invariant)) l.invariant.0 (rw c.in-Some.is at c.in_ok-next.ensures.fed), omega (arith, c.piece.auto, l.invariant))

pub returns-in_default-clause-fed : goal.returns-in_default-clause-fed
returns-in_default-clause-fed g c =
    let l = c.loop-i in
    fed_more (omega (arith, l.invariant)) l.invariant.0 (rw c.in_default.is at c.in_ok-next.ensures.fed)
