-- `alert::message::sent` meets its contract.
use Rattle.std.proofs.Common.{◌∙◌}
use Rattle.alert.specs.Message.{sent}
use Rattle.alert.proofs.Puts.{and}
use Rattle.alert.proofs.message.sent.Goals as goal

pub shape_of-room : goal.shape_of-room
unfolding sent
shape_of-room c =
    c.told.auto.room ∙ c.lines-c.auto.room
    ∙ c.mode_note-b.auto.room
    ∙ c.bytes-a.auto.room

pub returns : goal.returns
unfolding sent
returns c = and (and (and c.bytes-a.ensures c.mode_note-b.ensures) c.lines-c.ensures) c.told.ensures
