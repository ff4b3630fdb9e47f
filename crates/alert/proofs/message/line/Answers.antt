-- `alert::message::line` meets its contract.
use Rattle.std.proofs.Common.{◌∙◌}
use Rattle.alert.proofs.Messages.{shown, not_shown}
use Rattle.alert.proofs.message.line.Goals as goal

pub returns-then-not-is_shown : goal.returns-then-not-is_shown
returns-then-not-is_shown c =
    not_shown c.args.first c.args.last
    c.args.number c.args.text.now c.is_shown.ensures
    (c.if-not-is_shown.true)

pub shape_of-room : goal.shape_of-room
shape_of-room c =
    c.bytes.auto.room ∙ c.bytes-d.auto.room
    ∙ c.bytes-c.auto.room
    ∙ c.decimal-b.auto.room ∙ c.bytes-a.auto.room

pub returns : goal.returns
returns c =
    shown c.args.first c.args.last c.args.number c.args.text.now c.is_shown.ensures (c.if-not-is_shown.false)
    c.bytes-a.ensures c.decimal-b.ensures c.bytes-c.ensures c.bytes-d.ensures c.bytes.ensures
