-- `repaint::feeding::power_on_at` meets its contract.
use Rattle.repaint.proofs.Leading.{on_made}
use Rattle.repaint.proofs.feeding.power_on_at.Goals as goal

pub returns : goal.returns
returns c =
    let x = c.args in
    on_made x.wide x.personality c.power_on_state-s.ensures c.with_screen.ensures
