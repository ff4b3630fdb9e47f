-- `page::search::near_open` meets its contract. The loop: the first open cell from here on is the first from the start.
use mathlib.Core.Path.{refl, ◌∙◌}
use native.Mathlib.Omega.{arith}
use Rattle.rules.specs.Search.{guarded_at, others}
use Rattle.rules.proofs.Searching.{length_guards, length_others}
use Rattle.page.proofs.OpenSearch.{past, none_open}
use Rattle.page.proofs.search.near_open.Goals as goal

pub loop-at-init : goal.loop-at-init
loop-at-init c = (c.requires.0, refl)

pub returns-then-not-are_guarded : goal.returns-then-not-are_guarded
returns-then-not-are_guarded c = c.loop-at.invariant

pub loop-at-preserved : goal.loop-at-preserved
loop-at-preserved c =
    let x = c.args in
    let l = c.loop-at in
    let g = guarded_at x.protect x.page.now in
    let n = length_guards x.protect x.page.now in
    let more = c.loop-at-test.true in
    let all = c.are_guarded.ensures (c.if-not-are_guarded.false) in (
      omega (arith, more),
      l.invariant.1 ∙ past (others g) 8 l.at x.end more (omega (arith, n, length_others g))
          (none_open g l.at 8 (omega (arith, n, more)) all),
    )

pub returns : goal.returns
returns c = c.loop-at.invariant
