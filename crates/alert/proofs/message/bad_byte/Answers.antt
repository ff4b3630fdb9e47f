-- `alert::message::bad_byte` meets its contract.
use Rattle.std.proofs.Common.{◌∙◌}
use Rattle.alert.specs.Message.{count_line}
use Rattle.alert.proofs.Puts.{and}
use Rattle.alert.proofs.message.bad_byte.Goals as goal

pub shape_of-room : goal.shape_of-room
unfolding count_line
shape_of-room c =
    c.bytes.auto.room ∙ c.decimal-b.auto.room
    ∙ c.bytes-a.auto.room

pub returns : goal.returns
unfolding count_line
returns c =
    and (and c.bytes-a.ensures
    c.decimal-b.ensures) c.bytes.ensures
