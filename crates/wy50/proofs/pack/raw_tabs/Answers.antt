-- `wy50::pack::raw_tabs` meets its contract. The loop: the first i tab stops are translated.
use mathlib.Core.Bool.{false}
use mathlib.Core.Path.{◌≡◌}
use Prim.Native.Nat.{◌<◌}
use native.Mathlib.Omega.{arith}
use borrow.Author.Rules.{rules}
use lib.ListN.{length}
use Rattle.wy50.specs.Raw.{flag}
use Rattle.wy50.proofs.Loops.{begin, go, finish}
use Rattle.wy50.proofs.pack.raw_tabs.Goals as goal

pub loop-i-init : goal.loop-i-init
loop-i-init c = begin flag _ _ (search rules)

pub loop-i-preserved : goal.loop-i-preserved
loop-i-preserved c =
    let x = c.loop-i in
    let tabs = c.args.tabs in
    let n : length tabs ≡ 132 = search rules in
    let h : x.i < length tabs = omega (arith, n, c.loop-i-test.true) in
    go flag tabs x.t x.i false x.invariant h c.flag.ensures

pub returns : goal.returns
returns c =
    let tabs = c.args.tabs in
    let n : length tabs ≡ 132 = search rules in
    finish flag tabs _ c.loop-i.i c.loop-i.invariant (omega (arith, n, c.loop-i-test.false))
