-- `alert::message::lines` meets its contract. The loop: the lines to come make of the room what all of them make of the first.
use Rattle.std.proofs.Common.{refl, ◌∙◌, arith}
use Rattle.alert.proofs.Messages.{lines_begin, lines_on, lines_done}
use Rattle.alert.proofs.message.lines.Goals as goal

pub loop-i-init : goal.loop-i-init
loop-i-init c = (refl, lines_begin c.args.first c.args.last c.args.reply.now)

pub loop-i-preserved : goal.loop-i-preserved
loop-i-preserved c =
    let x = c.args in
    let l = c.loop-i in (
      c.line-n.auto.room ∙ l.invariant.0,
      lines_on x.first x.last x.reply.now l.i c.pieces_in-count.ensures (omega arith) c.piece.ensures c.line-n.ensures l.invariant.1,
    )

pub shape_of-room : goal.shape_of-room
shape_of-room c = c.loop-i.invariant.0

pub returns : goal.returns
returns c =
    let x = c.args in
    let l = c.loop-i in
    lines_done x.first x.last x.reply.now l.i c.pieces_in-count.ensures (omega arith) l.invariant.1
