-- `wy50::wy50_next` meets its contract.
use Rattle.wy50.proofs.Options.{none_is, some_is}
use Rattle.wy50.proofs.Next.{heard, heard_unnamed}
use Rattle.wy50.proofs.wy50_next.Goals as goal

pub returns-in_default : goal.returns-in_default
returns-in_default c = heard_unnamed _ _ _ _ _ (none_is _ _ c.in_default.ensures)

pub returns : goal.returns
returns c =
    let s = some_is _ c.in-Some.ensures in
    heard _ _ _ _ _ s.0 s.1 c.next-t.ensures.0 c.next-t.ensures.1 c.reply_command-command.ensures c.heard.ensures
