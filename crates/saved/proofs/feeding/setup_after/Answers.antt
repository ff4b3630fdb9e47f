-- `saved::feeding::setup_after` meets its contract.
use mathlib.Core.Path.{refl}
use Rattle.saved.proofs.Running.{after_run}
use Rattle.saved.proofs.feeding.setup_after.Goals as goal

pub returns : goal.returns
returns c =
    let x = c.args in after_run x.m x.bytes.now refl
    c.power_on_state.ensures refl
    c.run.ensures.state
