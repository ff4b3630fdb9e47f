-- `alert::stream::start_narrow` meets its contract.
use Rattle.std.proofs.Common.{◌∙◌}
use Rattle.alert.proofs.Starting.{on_state, on_page}
use Rattle.alert.proofs.stream.start_narrow.Goals as goal

pub returns : goal.returns
returns c = (
  c.power_on.ensures.state
      ∙ on_state c.args.personality
      c.args.page.now,
  c.power_on.ensures.page
      ∙ on_page c.args.personality
      c.args.page.now c.requires,
)
