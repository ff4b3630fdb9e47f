-- `alert::message::lines` meets its contract. The loop: the lines to come make of the room what all of them make of the first.
use Rattle.std.proofs.Common.{◌≡◌, length}
use Rattle.counter.specs.Pieces.{pieces}
use Rattle.alert.specs.Message.{piece_lines}
use Rattle.alert.proofs.Puts.{Left}
use Rattle.alert.proofs.Messages.{lines_left}
use Rattle.alert.proofs.message.lines.Given as goal

abbrev pub invariant-loop-i : goal.invariant-loop-i
invariant-loop-i l =
    (length l.room ≡ length l.initial.room)
    × Left (lines_left l.first l.last l.reply l.i) l.n l.room (piece_lines l.first l.last 1 (pieces l.reply)) l.start l.initial.room
