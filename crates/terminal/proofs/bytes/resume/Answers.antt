-- `terminal::bytes::resume` meets its contract.
use mathlib.Core.Path.{sym, ◌∙◌}
use Rattle.rules.proofs.Sends.{not_sending}
use Rattle.terminal.proofs.Calls.{none_went}
use Rattle.terminal.proofs.bytes.resume.Goals as goal

pub returns-then-not-is_sending : goal.returns-then-not-is_sending
returns-then-not-is_sending c =
    let x = c.args in
    none_went x.page.now x.core x.sending x.reply.now
    (not_sending _ (sym c.is_sending.ensures ∙ c.if-not-is_sending.true))

pub send-requires : goal.send-requires
send-requires c = c.requires (sym c.is_sending.ensures ∙ c.if-not-is_sending.false)

pub returns : goal.returns
returns c = c.send.ensures
