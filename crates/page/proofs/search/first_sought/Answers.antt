-- `page::search::first_sought` meets its contract. The loop: the first cell sought from here on is the first from the start.
use mathlib.Core.Path.{◌≡◌, sym, ◌∙◌}
use native.Mathlib.Omega.{arith}
use Rattle.rules.specs.Search.{guarded_at, sought_at}
use Rattle.rules.proofs.Searching.{hit, miss, first_none, length_sought, length_guards}
use Rattle.page.proofs.search.first_sought.Goals as goal

pub returns-then-is_sought : goal.returns-then-is_sought
returns-then-is_sought c =
    let x = c.args in
    let l = c.loop-at in
    let g = guarded_at x.protect x.page.now in
    let m = sought_at x.sought g in
    let n = length_sought x.sought g ∙ length_guards x.protect x.page.now in
    sym (l.invariant.1 ∙ hit m l.at x.end (omega arith) (omega arith) c.is_sought.ensures c.if-is_sought.true)

pub loop-at-preserved : goal.loop-at-preserved
loop-at-preserved c =
    let x = c.args in
    let l = c.loop-at in
    let g = guarded_at x.protect x.page.now in
    let m = sought_at x.sought g in
    let n = length_sought x.sought g ∙ length_guards x.protect x.page.now in
    (omega arith, l.invariant.1 ∙ miss m l.at x.end (omega arith) (omega arith) c.is_sought.ensures c.if-is_sought.false)

pub returns : goal.returns
returns c =
    let e : c.loop-at.at ≡ c.args.end = omega arith in
    sym (c.loop-at.invariant.1 ∙ rw (e, first_none))
