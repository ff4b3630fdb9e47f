-- `page::change::fill_cell` meets its contract.
use mathlib.Core.Path.{ap, ◌∙◌}
use lib.ListN.{set}
use Rattle.page.proofs.Changes.{one_filled}
use Rattle.page.proofs.change.fill_cell.Goals as goal

pub returns : goal.returns
returns c =
    let x = c.args in
    ap (set x.page.now x.at) c.filled_cell.ensures
    ∙ one_filled x.protect x.value x.page.now x.at c.requires
