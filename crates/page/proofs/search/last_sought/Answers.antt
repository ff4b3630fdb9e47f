-- `page::search::last_sought` meets its contract. The loop: the last cell sought below here is the last one.
use mathlib.Core.Path.{◌≡◌, sym, ◌∙◌}
use native.Mathlib.Omega.{arith}
use Rattle.rules.specs.Search.{guarded_at, sought_at}
use Rattle.rules.proofs.Searching.{hit_last, miss_last, last_none, length_sought, length_guards}
use Rattle.page.proofs.search.last_sought.Goals as goal

pub returns-then-is_sought : goal.returns-then-is_sought
returns-then-is_sought c =
    let x = c.args in
    let l = c.loop-at in
    let g = guarded_at x.protect x.page.now in
    let m = sought_at x.sought g in
    let n = length_sought x.sought g ∙ length_guards x.protect x.page.now in
    sym (l.invariant.1.1 ∙ hit_last x.none m x.first l.at (omega arith) (omega arith) c.is_sought.ensures
    c.if-is_sought.true)

pub loop-at-preserved : goal.loop-at-preserved
loop-at-preserved c =
    let x = c.args in
    let l = c.loop-at in
    let g = guarded_at x.protect x.page.now in
    let m = sought_at x.sought g in
    let n = length_sought x.sought g ∙ length_guards x.protect x.page.now in (
      omega arith,
      (
        omega arith,
        l.invariant.1.1 ∙ miss_last x.none m x.first l.at (omega arith) (omega arith)
            c.is_sought.ensures c.if-is_sought.false,
      ),
    )

pub returns : goal.returns
returns c =
    let e : c.loop-at.at ≡ c.args.first = omega arith in
    sym (c.loop-at.invariant.1.1 ∙ rw (e, last_none))
