-- `page::search::previous_tab` meets its contract. The loop: the last stop below here is the last one.
use mathlib.Core.Path.{◌≡◌, refl, sym, ◌∙◌}
use native.Mathlib.Omega.{arith}
use Rattle.rules.proofs.Searching.{hit_last, miss_last, last_none}
use Rattle.page.proofs.search.previous_tab.Goals as goal

pub returns-then-tabs-stop : goal.returns-then-tabs-stop
returns-then-tabs-stop c =
    let x = c.args in
    let l = c.loop-stop in
    sym (l.invariant.1 ∙ hit_last 0 x.tabs 0 l.stop (omega arith) (omega arith) refl c.if-tabs-stop.true)

pub loop-stop-preserved : goal.loop-stop-preserved
loop-stop-preserved c =
    let x = c.args in
    let l = c.loop-stop in
    (omega arith, l.invariant.1 ∙ miss_last 0 x.tabs 0 l.stop (omega arith) (omega arith) refl c.if-tabs-stop.false)

pub returns : goal.returns
returns c =
    let x = c.args in
    let l = c.loop-stop in
    let z : l.stop ≡ 0 = omega arith in
    sym (l.invariant.1 ∙ rw (z, last_none))
