-- `saved::feeding::with_settings` meets its contract.
use mathlib.Core.Path.{ap, ◌∙◌}
use Rattle.rules.specs.declared.Setup.{Setup}
use Rattle.saved.specs.Settings.{with_settings}
use Rattle.saved.proofs.feeding.with_settings.Goals as goal

pub returns : goal.returns
returns c =
    c.with_settings_of.ensures
    ∙ ap (λ (v : Setup). with_settings v c.args.u) c.setup_after-v.ensures.0
