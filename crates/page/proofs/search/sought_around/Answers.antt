-- `page::search::sought_around` meets its contract.
use Rattle.rules.specs.Search.{guarded_at, sought_at}
use Rattle.rules.proofs.Searching.{around_here, around_wrapped, around_none}
use Rattle.page.proofs.search.sought_around.Goals as goal

pub returns-then-after-end : goal.returns-then-after-end
returns-then-after-end c =
    let x = c.args in
    let m = sought_at x.sought (guarded_at x.protect x.page.now) in
    around_here m x.first x.end x.from c.first_sought-after.ensures c.if-after-end.true

pub returns-then-wrapped-end : goal.returns-then-wrapped-end
returns-then-wrapped-end c =
    let x = c.args in
    let m = sought_at x.sought (guarded_at x.protect x.page.now) in
    around_wrapped m x.first x.end x.from c.first_sought-after.ensures c.if-after-end.false
    c.first_sought-wrapped.ensures c.if-wrapped-end.true

pub returns-else-wrapped-end : goal.returns-else-wrapped-end
returns-else-wrapped-end c =
    let x = c.args in
    let m = sought_at x.sought (guarded_at x.protect x.page.now) in
    around_none m x.first x.end x.from c.first_sought-after.ensures c.if-after-end.false
    c.first_sought-wrapped.ensures c.if-wrapped-end.false
