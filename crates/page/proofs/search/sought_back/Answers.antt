-- `page::search::sought_back` meets its contract.
use Rattle.rules.specs.Search.{guarded_at, sought_at}
use Rattle.rules.proofs.Searching.{back_here, back_wrapped}
use Rattle.page.proofs.search.sought_back.Goals as goal

pub returns-then-before-end : goal.returns-then-before-end
returns-then-before-end c =
    let x = c.args in
    let m = sought_at x.sought (guarded_at x.protect x.page.now) in
    back_here m x.first x.end x.from c.last_sought-before.ensures c.if-before-end.true

pub returns : goal.returns
returns c =
    let x = c.args in
    let m = sought_at x.sought (guarded_at x.protect x.page.now) in
    back_wrapped m x.first x.end x.from c.last_sought-before.ensures c.if-before-end.false
    c.last_sought.ensures
