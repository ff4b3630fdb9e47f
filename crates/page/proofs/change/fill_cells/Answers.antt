-- `page::change::fill_cells` meets its contract.
use Rattle.rules.specs.Change.{filled}
use Rattle.page.proofs.Changes.{lent}
use Rattle.page.proofs.change.fill_cells.Goals as goal

pub returns : goal.returns
returns c =
    let x = c.args in
    lent x.from x.to (filled x.protect x.value) x.page.now c.fill.ensures
