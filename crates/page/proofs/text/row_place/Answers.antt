-- `page::text::row_place` meets its contract.
use borrow.Author.Tests.{eq-eqb, ne_eqb}
use Rattle.page.proofs.text.row_place.Goals as goal

pub returns-then-end-to : goal.returns-then-end-to
returns-then-end-to c = rw (eq-eqb c.args.end c.args.to c.if-end-to.true)

pub returns-else-end-to : goal.returns-else-end-to
returns-else-end-to c = rw (ne_eqb c.args.end c.args.to c.if-end-to.false)
