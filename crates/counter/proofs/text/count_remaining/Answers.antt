-- `counter::text::count_remaining` meets its contract.
use Rattle.std.proofs.Common.{◌∙◌}
use Rattle.counter.proofs.Texts.{walk_count}
use Rattle.counter.proofs.text.count_remaining.Goals as goal

pub returns : goal.returns
returns c = c.walk.ensures ∙ walk_count c.args.cut c.args.text.now c.stripped.ensures
