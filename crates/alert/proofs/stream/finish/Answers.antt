-- `alert::stream::finish` meets its contract. The loop: the times that are left come to what all of them do; what is lent keeps its length.
use Rattle.std.proofs.Common.{◌≡◌, ◌+◌, ◌-◌, length, arith, rules}
use Rattle.alert.specs.Watch.{most_times}
use Rattle.alert.proofs.Watching.{finish_begin, finish_on, finish_over, finish_none}
use Rattle.alert.proofs.stream.finish.Goals as goal

pub loop-i-init : goal.loop-i-init
loop-i-init c =
    let x = c.args in
    (finish_begin (length x.room.now) x.page.now x.p.state, search rules)

pub returns-then-not-is_sending : goal.returns-then-not-is_sending
returns-then-not-is_sending c = finish_over c.is_sending.ensures c.if-not-is_sending.true c.loop-i.invariant.0

pub loop-i-preserved : goal.loop-i-preserved
loop-i-preserved c =
    let l = c.loop-i in
    let z : most_times - l.i - 1 ≡ most_times - (l.i + 1) = omega arith in (
      rw z at (finish_on (omega arith) (omega (arith, l.invariant)) c.is_sending.ensures c.if-not-is_sending.false c.resume-t.ensures l.invariant.0),
      omega (arith, c.resume-t.auto, l.invariant),
    )

pub returns : goal.returns
returns c = finish_none (omega arith) c.loop-i.invariant.0
