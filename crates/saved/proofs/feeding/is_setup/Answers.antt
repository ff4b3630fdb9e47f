-- `saved::feeding::is_setup` meets its contract.
use mathlib.Core.Path.{ap, ◌∙◌}
use Rattle.rules.specs.declared.Setup.{Setup}
use Rattle.rules.specs.Cell.{same}
use Rattle.saved.specs.SetupBytes.{setup_bytes}
use Rattle.saved.specs.Store.{is_setup}
use Rattle.saved.proofs.feeding.is_setup.Goals as goal

pub has_bytes-requires : goal.has_bytes-requires
unfolding is_setup
has_bytes-requires c = c.setup_after-u.ensures.1

pub returns : goal.returns
unfolding is_setup
returns c =
    c.has_bytes.ensures
    ∙ ap (λ (u : Setup). same c.args.bytes.now (setup_bytes u)) c.setup_after-u.ensures.0
