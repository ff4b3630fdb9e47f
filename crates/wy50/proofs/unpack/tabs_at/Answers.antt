-- `wy50::unpack::tabs_at` meets its contract. The loop: the first i tab stops are translated, and they and those from i on decide.
use mathlib.Core.Path.{◌≡◌, refl, ◌∙◌}
use mathlib.Core.Bool.{Bool, true, false}
use Prim.Native.Nat.{suc, ◌≤◌, ◌<◌}
use native.Mathlib.Numerals.{add-one}
use native.Mathlib.Omega.{arith}
use borrow.Author.Rules.{rules}
use lib.Dec.{ltb}
use lib.ListN.{length, get_or, drop, drop_of_length-le}
use lib.Seq.{drop-cons}
use Rattle.std.specs.Prelude.{◌&&◌}
use Rattle.rules.specs.Cell.{both}
use Rattle.wy50.specs.Raw.{all_below, is_on}
use Rattle.wy50.proofs.Loops.{begin, go, finish}
use Rattle.wy50.proofs.unpack.tabs_at.Goals as goal

both_and : (a b c : Bool) → both a (both b c) ≡ both (a && b) c
both_and true b c = refl
both_and false b c = refl

both_end : (a : Bool) → both a true ≡ a
both_end true = refl
both_end false = refl

pub loop-i-init : goal.loop-i-init
loop-i-init c = (begin is_on _ _ (search rules), refl)

pub loop-i-preserved : goal.loop-i-preserved
unfolding all_below
loop-i-preserved c =
    let x = c.loop-i in
    let tabs = c.args.tabs in
    let n : length tabs ≡ 132 = search rules in
    let h : x.i < length tabs = omega (arith, n, c.loop-i-test.true) in (
      go is_on tabs x.on x.i 0 x.invariant.0 h refl,
      x.invariant.1
          ∙ rw (drop-cons tabs x.i 0 h, add-one) (both_and x.all (ltb (get_or tabs x.i 0) 2) (all_below 2 (drop (suc x.i) tabs))),
    )

pub returns : goal.returns
unfolding all_below
returns c =
    let x = c.loop-i in
    let tabs = c.args.tabs in
    let n : length tabs ≡ 132 = search rules in
    let h : length tabs ≤ x.i = omega (arith, n, c.loop-i-test.false) in
    let all : all_below 2 tabs ≡ x.all = x.invariant.1 ∙ rw (drop_of_length-le tabs h) (both_end x.all) in
    c.then_some.ensures ∙ rw (finish is_on tabs _ x.i x.invariant.0 h, all)
