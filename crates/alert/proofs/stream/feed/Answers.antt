-- `alert::stream::feed` meets its contract. The loop: the bytes to come bring about what all of them do; what is lent keeps its length.
use Rattle.std.proofs.Common.{length, arith, rules}
use Rattle.alert.specs.Watch.{watch}
use Rattle.alert.proofs.Watching.{watch_begin, watch_on, watch_done}
use Rattle.alert.proofs.stream.feed.Goals as goal

pub loop-b-init : goal.loop-b-init
loop-b-init c =
    let x = c.args in
    (watch_begin (length x.room.now) (watch x.page.now x.drawn.now x.p.state) x.input.now, search rules)

pub loop-b-preserved : goal.loop-b-preserved
loop-b-preserved c =
    let l = c.loop-b in (
      watch_on c.args.input.now l.b-index c.loop-b-test.true (omega (arith, l.invariant)) c.obey-t.ensures l.invariant.0,
      omega (arith, c.obey-t.auto, l.invariant),
    )

pub returns : goal.returns
returns c = record { is = watch_done c.args.input.now c.loop-b.b-index c.loop-b-test.false c.loop-b.invariant.0 }
