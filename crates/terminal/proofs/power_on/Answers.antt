-- `terminal::power_on` meets its contract.
use Rattle.terminal.proofs.Calls.{powered_on, power_on_refused}
use Rattle.terminal.proofs.power_on.Goals as goal

pub returns-then-page-eq-NARROW_CELLS : goal.returns-then-page-eq-NARROW_CELLS
returns-then-page-eq-NARROW_CELLS c = powered_on _ _ _ _ c.if-page-eq-NARROW_CELLS.true c.power_on_state-state.ensures c.fill_cells.ensures

pub returns : goal.returns
returns c = power_on_refused _ _ _ c.if-page-eq-NARROW_CELLS.false c.power_on_state-state.ensures
