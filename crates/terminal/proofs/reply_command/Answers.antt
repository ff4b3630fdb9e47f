-- `terminal::reply_command` meets its contract.
use mathlib.Core.Path.{sym, ◌∙◌}
use native.Mathlib.Omega.{arith}
use Rattle.terminal.proofs.Calls.{told_nothing, told_send, told_none, told_byte}
use Rattle.terminal.proofs.reply_command.Goals as goal

pub returns-then-replied-eq0 : goal.returns-then-replied-eq0
returns-then-replied-eq0 c = let s = c.args in told_nothing s.sending s.input.now s.taken s.replied c.if-replied-eq0.true

pub returns-then-is_sending : goal.returns-then-is_sending
returns-then-is_sending c =
    let s = c.args in
    c.command_of.ensures
    ∙ told_send s.sending s.input.now s.taken s.replied c.if-replied-eq0.false (sym c.is_sending.ensures ∙ c.if-is_sending.true)

pub returns-then-taken-eq0 : goal.returns-then-taken-eq0
returns-then-taken-eq0 c =
    let s = c.args in
    told_none s.sending s.input.now s.taken s.replied c.if-replied-eq0.false (sym c.is_sending.ensures ∙ c.if-is_sending.false)
    c.then-taken-eq0.either

pub returns : goal.returns
returns c =
    let s = c.args in
    told_byte s.sending s.input.now s.taken s.replied c.if-replied-eq0.false (sym c.is_sending.ensures ∙ c.if-is_sending.false)
    (omega (arith, c.if-taken-eq0.false))
