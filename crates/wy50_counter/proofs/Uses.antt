-- The use holds, by the statement it is of.
-- Assumes nothing.
use Prim.Native.Nat.{ℕ}
use native.Mathlib.Omega.{arith}
use lib.ListN.{length-replicate}
use Rattle.counter.specs.Cases.{letters}
use Rattle.wy50_counter.specs.Uses.{Letters}
use Rattle.wy50_counter.proofs.Bills.{unmistaken}

pub long_bills : Letters
long_bills n h = unmistaken (letters n) (omega (arith, length-replicate {A = ℕ} n 0x61))
