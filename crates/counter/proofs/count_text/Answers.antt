-- `counter::count_text` meets its contract.
use Rattle.std.proofs.Common.{ap, ◌∙◌}
use Rattle.counter.specs.Count.{numbers, text_count}
use Rattle.counter.proofs.Texts.{remaining_all}
use Rattle.counter.proofs.count_text.Goals as goal

pub returns : goal.returns
returns c = ap numbers (c.count_remaining.ensures ∙ ap text_count (remaining_all c.args.text.now))
