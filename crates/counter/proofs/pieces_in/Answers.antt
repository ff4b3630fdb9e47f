-- `counter::pieces_in` meets its contract.
use Rattle.std.proofs.Common.{ap, ◌∙◌, ◌+◌}
use Rattle.counter.proofs.Counting.{pieces_none, pieces_some}
use Rattle.counter.proofs.pieces_in.Goals as goal

pub returns-in-Some : goal.returns-in-Some
returns-in-Some c =
    ap (λ n. n + 1) c.marks_in.ensures.0 ∙ pieces_some c.args.reply.now c.in-Some.ensures.0 c.in-Some.ensures.1

pub returns-in-None : goal.returns-in-None
returns-in-None c = pieces_none c.args.reply.now c.in-None.ensures
