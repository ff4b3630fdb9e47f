-- `wy50::unpack::keys_of` meets its contract.
use mathlib.Core.List.{[]}
use mathlib.Core.Path.{◌≡◌, sym, ◌∙◌}
use Prim.Native.Nat.{◌+◌, ◌*◌, ◌<◌}
use native.Mathlib.Omega.{arith}
use borrow.Author.Rules.{rules}
use lib.ListN.{length, length-replicate}
use Rattle.wy50.specs.Raw.{key_of}
use Rattle.wy50.proofs.Loops.{begin, go, at, finish}
use Rattle.wy50.proofs.unpack.keys_of.Goals as goal

pub loop-i-init : goal.loop-i-init
loop-i-init g c =
    let k : length c.args.keys ≡ g.row.N = search rules in
    begin key_of _ _ (length-replicate g.row.N _ ∙ sym k)

pub loop-j-init : goal.loop-j-init
loop-j-init g c = at key_of _ _ _ _ (omega arith) c.loop-i.invariant

pub loop-j-preserved : goal.loop-j-preserved
loop-j-preserved g c =
    let y = c.loop-j in
    let n = 8 * c.loop-i.i + y.j in
    let k : length c.args.keys ≡ g.row.N = search rules in
    let h : n < length c.args.keys = omega (arith, k, c.loop-i-test.true, c.loop-j-test.true) in
    at key_of _ _ (n + 1) _ (omega arith) (go key_of _ y.t n record { len = 0; bytes = [] } y.invariant h c.key_of.ensures)

pub loop-i-preserved : goal.loop-i-preserved
loop-i-preserved g c = at key_of _ _ _ _ (omega (arith, c.loop-j.auto.j-end, c.loop-j-test.false)) c.loop-j.invariant

pub returns : goal.returns
returns g c =
    let k : length c.args.keys ≡ g.row.N = search rules in
    finish key_of _ _ (8 * c.loop-i.i) c.loop-i.invariant (omega (arith, k, c.loop-i-test.false))
