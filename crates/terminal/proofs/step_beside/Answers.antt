-- `terminal::step_beside` meets its contract.
use Rattle.terminal.proofs.Calls.{one_byte}
use Rattle.terminal.proofs.step_beside.Goals as goal

pub run_beside-t-requires : goal.run_beside-t-requires
run_beside-t-requires c = c.requires

pub returns : goal.returns
returns c = (one_byte c.args.byte c.args.page.now c.args.state c.run_beside-t.ensures.0, c.run_beside-t.ensures.1)
