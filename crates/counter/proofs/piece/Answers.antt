-- `counter::piece` meets its contract.
use Rattle.std.proofs.Common.{refl, arith}
use Rattle.counter.proofs.Counting.{piece_unreturned, piece_zero, piece_beyond, piece_is}
use Rattle.counter.proofs.piece.Goals as goal
use Rattle.counter.proofs.piece.Goals.{then-number-lt1-via-then-number-lt1, then-number-lt1-via-else-number-lt1+then-marks_in-number}

pub returns-in_default : goal.returns-in_default
returns-in_default c = piece_unreturned c.args.reply.now c.args.number c.in_default.ensures

pub returns-then-number-lt1 : goal.returns-then-number-lt1
returns-then-number-lt1 c =
    elim c.then-number-lt1.branch [
      | then-number-lt1-via-then-number-lt1 w ↦ piece_zero c.args.reply.now c.args.number w.if-number-lt1.true
      | then-number-lt1-via-else-number-lt1+then-marks_in-number w ↦ piece_beyond c.args.reply.now c.args.number c.in-Some.ensures.0 c.in-Some.ensures.1 (omega (arith, w.marks_in.ensures.0, w.if-marks_in-number.true))
    ]

pub returns : goal.returns
returns c = piece_is c.args.reply.now c.args.number c.in-Some.ensures.0 c.in-Some.ensures.1 (omega arith) (c.part.ensures.one refl)
