-- `wy50::wy50_mend` meets its contract.
use Rattle.wy50.proofs.Options.{none_is, some_is}
use Rattle.wy50.proofs.MendCalls.{mend_unnamed, mend_named}
use Rattle.wy50.proofs.wy50_mend.Goals as goal

pub returns-in_default : goal.returns-in_default
returns-in_default c = mend_unnamed c.args.personality c.args.page.now c.args.list.now (none_is _ _ c.in_default.ensures)

pub returns : goal.returns
returns c =
    let x = c.args in
    let s = some_is _ c.in-Some.ensures in
    rw c.mend_given.ensures (mend_named x.personality x.page.now x.list.now s.0 s.1 c.mend.ensures)
