-- `alert::stream::start_wide` meets its contract.
use mathlib.Core.Path.{◌∙◌}
use Rattle.alert.proofs.Starting.{turned}
use Rattle.alert.proofs.stream.start_wide.Goals as goal

pub returns : goal.returns
returns c =
    turned c.args.personality
    c.args.page.now
    c.start_narrow-state.ensures.1
    c.start_narrow-state.ensures.0
    c.requires (c.unwrap_or.ensures ∙ c.convert.ensures.state)
    c.convert.ensures.target
