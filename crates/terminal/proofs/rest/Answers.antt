-- `terminal::rest` meets its contract.
use Rattle.terminal.proofs.Loop.{tail_lent, tail_none}
use Rattle.terminal.proofs.rest.Goals as goal

pub returns-then-n-taken : goal.returns-then-n-taken
returns-then-n-taken c = tail_none _ _ c.if-n-taken.true

pub returns : goal.returns
returns c = tail_lent c.args.taken c.args.input.now
