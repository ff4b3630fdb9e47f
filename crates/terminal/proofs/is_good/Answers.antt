-- `terminal::is_good` meets its contract.
use mathlib.Core.Path.{sym, ◌∙◌}
use borrow.Author.Tests.{eq-eqb, ne_eqb}
use Rattle.rules.specs.Possible.{good}
use Rattle.terminal.proofs.is_good.Goals as goal

pub returns-then-page-n : goal.returns-then-page-n
unfolding good
returns-then-page-n c = rw (eq-eqb _ _ (c.if-page-n.true ∙ c.cells-n.ensures)) c.possible.ensures

pub returns-else-page-n : goal.returns-else-page-n
unfolding good
returns-else-page-n c = rw (ne_eqb _ _ c.if-page-n.false, ne_eqb _ _ (λ q. c.if-page-n.false (q ∙ sym c.cells-n.ensures)))
