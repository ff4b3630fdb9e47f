-- `alert::message::size` meets its contract.
use Rattle.std.proofs.Common.{◌∙◌}
use Rattle.alert.specs.Message.{count_line}
use Rattle.alert.proofs.Puts.{and}
use Rattle.alert.proofs.message.size.Goals as goal

pub shape_of-room : goal.shape_of-room
unfolding count_line
shape_of-room c =
    c.bytes.auto.room ∙ c.count-d.auto.room
    ∙ c.bytes-c.auto.room
    ∙ c.count-b.auto.room ∙ c.bytes-a.auto.room

pub returns : goal.returns
unfolding count_line
returns c =
    and (and (and (and
    c.bytes-a.ensures c.count-b.ensures) c.bytes-c.ensures) c.count-d.ensures) c.bytes.ensures
