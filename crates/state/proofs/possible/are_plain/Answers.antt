-- `state::possible::are_plain` meets its contract. The loops: if the first 8 i and j keys are plain, those behind them decide.
use Rattle.std.specs.Prelude.{◌+◌, ◌*◌}
use native.Mathlib.Omega.{arith}
use borrow.Author.Rules.{rules}
use Rattle.state.proofs.Plain.{begin, go, at, finish}
use Rattle.state.proofs.possible.are_plain.Goals as goal

pub loop-i-init : goal.loop-i-init
loop-i-init c = (begin _, omega arith)

pub loop-j-init : goal.loop-j-init
loop-j-init c = (at _ _ _ _ (omega arith) c.loop-i.invariant.0, omega arith)

pub loop-j-preserved : goal.loop-j-preserved
loop-j-preserved c =
    let y = c.loop-j in
    let x = c.loop-i in
    let n = 8 * x.i + y.j in
    (at _ _ _ _ (omega arith) (go _ y.plain _ n (search rules) c.is_plain-plain.ensures y.invariant.0), search rules)

pub loop-i-preserved : goal.loop-i-preserved
loop-i-preserved c = (at _ _ _ _ (omega (arith, c.loop-j.invariant.1, c.loop-j-test.false)) c.loop-j.invariant.0, omega arith)

pub returns : goal.returns
returns c = finish _ _ (8 * c.loop-i.i) c.loop-i.invariant.0 (search rules)
