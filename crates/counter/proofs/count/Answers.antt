-- `counter::count` meets its contract.
use Rattle.std.proofs.Common.{sym, arith}
use Rattle.counter.proofs.Counting.{in_range, no_return_is, bad_first_is, bad_last_is, counted_is}
use Rattle.counter.proofs.count.Goals as goal

pub returns-in_default : goal.returns-in_default
returns-in_default c = no_return_is c.args.reply.now c.args.first c.args.last c.in_default.ensures

pub returns-then-not-in_order : goal.returns-then-not-in_order
returns-then-not-in_order c =
    bad_first_is c.args.reply.now c.args.first c.args.last c.in-Some.ensures.0 (sym c.if-not-in_order.ensures)

pub returns-then-marks_in-last : goal.returns-then-marks_in-last
returns-then-marks_in-last c =
    bad_last_is c.args.reply.now c.args.first c.args.last c.in-Some.ensures.0 c.in-Some.ensures.1 (in_range _ _ (sym c.if-not-in_order.ensures))
    (omega (arith, c.marks_in.ensures.0))

pub returns : goal.returns
returns c =
    counted_is c.args.reply.now c.args.first c.args.last c.in-Some.ensures.0 c.in-Some.ensures.1 (in_range _ _ (sym c.if-not-in_order.ensures))
    (omega (arith, c.marks_in.ensures.0)) c.part.result.now c.part.ensures.all c.count_remaining.ensures
