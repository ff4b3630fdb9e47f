-- `saved::feeding::with_settings_of` meets its contract.
use Rattle.saved.specs.Settings.{with_settings}
use Rattle.saved.proofs.feeding.with_settings_of.Goals as goal

pub returns : goal.returns
unfolding with_settings
returns c = rw c.join_stops-tabs.ensures
