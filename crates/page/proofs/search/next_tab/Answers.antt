-- `page::search::next_tab` meets its contract. The loop: the first stop from here on is the first from the start.
use mathlib.Core.Path.{◌≡◌, refl, ◌∙◌}
use Prim.Native.Nat.{◌+◌}
use native.Mathlib.Omega.{arith}
use borrow.Author.Tests.{lt-ltb, le-ltb}
use Rattle.rules.specs.Row.{columns}
use Rattle.rules.specs.Search.{first_in}
use Rattle.rules.proofs.Searching.{hit, miss, first_none}
use Rattle.rules.proofs.Rows.{columns_width, width_range}
use Rattle.page.proofs.search.next_tab.Goals as goal

pub overflow_step-stop : goal.overflow_step-stop
overflow_step-stop c = omega (arith, width_range (columns_width c.args.wide))

pub bounds-tabs-stop : goal.bounds-tabs-stop
bounds-tabs-stop c = omega (arith, width_range (columns_width c.args.wide))

pub returns-then-tabs-stop : goal.returns-then-tabs-stop
returns-then-tabs-stop c =
    let x = c.args in
    let l = c.loop-stop in
    let e = l.invariant.1 ∙ hit x.tabs l.stop (columns x.wide) (omega arith) (omega (arith, width_range (columns_width x.wide))) refl c.if-tabs-stop.true in
    rw (e, lt-ltb l.stop (columns x.wide) (omega arith))

pub loop-stop-preserved : goal.loop-stop-preserved
loop-stop-preserved c =
    let x = c.args in
    let l = c.loop-stop in
    (omega arith, l.invariant.1 ∙ miss x.tabs l.stop (columns x.wide) (omega arith) (omega (arith, width_range (columns_width x.wide))) refl c.if-tabs-stop.false)

pub returns : goal.returns
returns c =
    let x = c.args in
    let l = c.loop-stop in
    let z : l.stop ≡ (columns x.wide) = omega arith in
    let e : first_in x.tabs (x.column + 1) (columns x.wide) ≡ (columns x.wide) = l.invariant.1 ∙ rw (z, first_none) in
    rw (e, le-ltb (columns x.wide) (columns x.wide) (omega arith))
