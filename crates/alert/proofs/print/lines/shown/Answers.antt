-- `alert::print::lines::shown` meets its contract.
use Rattle.alert.proofs.Labels.{shown_on, shown_off}
use Rattle.alert.proofs.print.lines.shown.Goals as goal

pub returns-then-shifted : goal.returns-then-shifted
returns-then-shifted c = let x = c.args in shown_on x.labels x.shifted x.i c.if-shifted.true

pub returns : goal.returns
returns c = let x = c.args in shown_off x.labels x.shifted x.i c.if-shifted.false c.requires
