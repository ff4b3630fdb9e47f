-- `wy50::pack::bytes_back` meets its contract. The loop: the first i bytes are there.
use mathlib.Core.Path.{◌≡◌, sym, ◌∙◌}
use Prim.Native.Nat.{ℕ, ◌<◌}
use native.Mathlib.Omega.{arith}
use lib.ListN.{length}
use borrow.Author.Rules.{rules}
use Rattle.wy50.specs.Raw.{blanked, laid_over}
use Rattle.wy50.proofs.Loops.{begin, go, finish}
use Rattle.wy50.proofs.Gathered.{laid_none, laid_length, byte_at, map_same}
use Rattle.wy50.proofs.pack.bytes_back.Goals as goal

pub returns-then-m-eq0 : goal.returns-then-m-eq0
returns-then-m-eq0 c = laid_none _ _ c.if-n-eq0.true c.if-m-eq0.true

pub loop-i-init : goal.loop-i-init
loop-i-init c =
    let a = c.args in
    let e : length a.new ≡ 46 = search rules in
    let f : length a.old ≡ 46 = search rules in
    begin (λ (b : ℕ). b) _ _ (omega (arith, laid_length a.n a.m a.new a.old (e ∙ sym f), f))

pub loop-i-preserved : goal.loop-i-preserved
loop-i-preserved c =
    let x = c.loop-i in
    let a = c.args in
    let e : length a.new ≡ 46 = search rules in
    let f : length a.old ≡ 46 = search rules in
    let h : x.i < length (laid_over a.n a.new (blanked a.m a.old)) = omega
    (arith, laid_length a.n a.m a.new a.old (e ∙ sym f), f) in
    go (λ (b : ℕ). b) _ x.t x.i 0 x.invariant h (c.byte_back.ensures ∙ byte_at a.n a.m a.new a.old (e ∙ sym f) x.i)

pub returns : goal.returns
returns c =
    let a = c.args in
    let e : length a.new ≡ 46 = search rules in
    let f : length a.old ≡ 46 = search rules in
    finish (λ (b : ℕ). b) _ _ c.loop-i.i c.loop-i.invariant (omega (arith, laid_length a.n a.m a.new a.old (e ∙ sym f), f))
    ∙ map_same (laid_over a.n a.new (blanked a.m a.old))
