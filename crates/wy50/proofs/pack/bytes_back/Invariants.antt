-- `wy50::pack::bytes_back` meets its contract. The loop: the first i bytes are there.
use Prim.Native.Nat.{ℕ}
use Rattle.wy50.specs.Raw.{blanked, laid_over}
use Rattle.wy50.proofs.Loops.{Translated}
use Rattle.wy50.proofs.pack.bytes_back.Given as goal

abbrev pub invariant-loop-i : goal.invariant-loop-i
invariant-loop-i l =
    Translated (λ (b : ℕ). b) (laid_over l.n l.new (blanked l.m l.old)) l.t l.i
