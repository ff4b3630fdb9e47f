-- `page::search::settle` meets its contract.
use mathlib.Core.Path.{sym, ap, ◌∙◌}
use mathlib.Core.Bool.{Bool}
use Rattle.rules.specs.Search.{guarded_at, others, settled}
use Rattle.page.proofs.OpenSearch.{around_from, off_here, off_end}
use Rattle.page.proofs.search.settle.Goals as goal

pub returns-then-protect : goal.returns-then-protect
returns-then-protect c =
    let x = c.args in
    c.sought_around.ensures
    ∙ around_from (others (guarded_at x.protect x.page.now)) x.first x.end x.from _ c.near_open-near.ensures.1

pub returns-then-from-end : goal.returns-then-from-end
returns-then-from-end c =
    let x = c.args in
    let k = c.requires in
    off_here x.page.now x.end k.1.1 x.first x.from c.if-from-end.true
    ∙ sym (ap (λ (b : Bool). settled (guarded_at b x.page.now) x.first x.end x.from) c.if-protect.false)

pub returns-else-from-end : goal.returns-else-from-end
returns-else-from-end c =
    let x = c.args in
    let k = c.requires in
    off_end x.page.now x.end k.1.1 x.first x.from k.0 k.1.0 c.if-from-end.false
    ∙ sym (ap (λ (b : Bool). settled (guarded_at b x.page.now) x.first x.end x.from) c.if-protect.false)
