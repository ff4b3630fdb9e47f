-- `alert::put::bytes` meets its contract. The loop: to put the bytes to come makes of the room what all of them make of the first.
use Rattle.std.proofs.Common.{refl, ◌∙◌}
use Rattle.alert.proofs.Puts.{begin, byte_on, text_done}
use Rattle.alert.proofs.put.bytes.Goals as goal

pub loop-b-init : goal.loop-b-init
loop-b-init c = (refl, begin)

pub loop-b-preserved : goal.loop-b-preserved
loop-b-preserved c =
    let l = c.loop-b in
    (c.byte-n.auto.room ∙ l.invariant.0, byte_on c.args.text.now l.b-index c.loop-b-test.true c.byte-n.ensures l.invariant.1)

pub returns : goal.returns
returns c = text_done c.args.text.now c.loop-b.b-index c.loop-b-test.false c.loop-b.invariant.1
