-- `counter::pieces::before_return` meets its contract.
use Rattle.std.proofs.Common.{arith}
use Rattle.counter.proofs.Counting.{return_cut}
use Rattle.counter.proofs.pieces.before_return.Goals as goal

pub returns : goal.returns
returns c = return_cut c.args.reply.now c.strip_suffix.result (omega arith) c.strip_suffix.ensures.cases
