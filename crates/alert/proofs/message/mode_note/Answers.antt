-- `alert::message::mode_note` meets its contract.
use Rattle.alert.proofs.Messages.{note_on, note_off}
use Rattle.alert.proofs.message.mode_note.Goals as goal

pub returns-then-protect : goal.returns-then-protect
returns-then-protect c = note_on c.args.protect c.if-protect.true

pub returns : goal.returns
returns c =
    note_off c.args.protect c.if-protect.false
    c.bytes.ensures
