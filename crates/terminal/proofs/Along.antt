-- The loops of text: so many cells as bytes.
-- Assumes nothing.
use Rattle.std.specs.Prelude.{◌≡◌, ℕ, ◌+◌, ◌-◌, ◌<◌, ◌≤◌}
use native.Mathlib.Omega.{arith}

-- and before the byte `last` one cell more and the byte are there
pub record Along (first end from size last at i : ℕ) : Type 0 where
  pub begun : from ≤ i
  pub even : at + from ≡ first + i
  pub more : (n : ℕ) → from + n < last → (first + n + 1 < end) × (from + n < size)

pub next : {first end from size last at i : ℕ} → Along first end from size last at i → i < last → (at + 1 < end) × (i < size)
next {first} {end} {from} {size} {last} {at} {i} a h =
    let k = a.more (i - from) (omega (arith, a.begun, h)) in
    (omega (arith, k.0, a.even, a.begun), omega (arith, k.1, a.begun))

pub along : {first end from size last at i : ℕ} → Along first end from size last at i → Along first end from size last (at + 1) (i + 1)
along a = record { begun = omega (arith, a.begun); even = omega (arith, a.even); more = a.more }
