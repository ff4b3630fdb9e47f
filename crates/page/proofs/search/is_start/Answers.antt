-- `page::search::is_start` meets its contract.
use borrow.Author.Tests.{eq-eqb, ne_eqb}
use Rattle.page.proofs.search.is_start.Goals as goal

pub returns-then-at-first : goal.returns-then-at-first
returns-then-at-first c = rw (eq-eqb _ _ c.if-at-first.true)

pub returns-then-at-eq0 : goal.returns-then-at-eq0
returns-then-at-eq0 c = rw (ne_eqb _ _ c.if-at-first.false, eq-eqb _ _ c.if-at-eq0.true)

pub returns-else-at-eq0 : goal.returns-else-at-eq0
returns-else-at-eq0 c = rw (ne_eqb _ _ c.if-at-first.false, ne_eqb _ _ c.if-at-eq0.false) c.is_guarded_at.ensures
