-- `terminal::width::state_on` meets its contract.
use mathlib.Core.Path.{◌∙◌}
use Rattle.terminal.proofs.Converting.{on_core, on_state}
use Rattle.terminal.proofs.width.state_on.Goals as goal

pub home-x-requires : goal.home-x-requires
home-x-requires c = c.requires

pub returns : goal.returns
returns c =
    let s = c.args in
    on_state s.state s.page.now _ _ (c.with_screen.ensures ∙ on_core s.state.core s.page.now _ c.home-x.ensures)
    c.stops_within-tabs.ensures
