-- The billing job is never misled, and the worked bills hold.
--     unmistaken, bills     the statements of specs/Raw
-- Assumes nothing.
use mathlib.Core.Path.{◌≡◌, refl}
use mathlib.Core.Bool.{Bool, true, false}
use Prim.Native.Nat.{ℕ}
use native.Mathlib.Omega.{arith}
use lib.Dec.{ltb}
use lib.ListN.{length}
use Rattle.rules.specs.Cell.{pick}
use Rattle.std.proofs.Common.{Err}
use Rattle.counter.specs.declared.Refusal.{Refusal}
use Rattle.counter.specs.Alphabet.{in_alphabet, cost, units, first_outside}
use Rattle.rules.specs.Fields.{kept, trimmed}
use Rattle.counter.specs.Pieces.{onto}
use Rattle.counter.specs.Parts.{filling, parts}
use Rattle.counter.specs.Count.{of_units, numbers, largest, capped, sized, text_count}
use Rattle.counter.proofs.Sizes.{few_parts}
use Rattle.wy50_counter.specs.Raw.{billed, Unmistaken, Bills}

pub unmistaken : Unmistaken
unfolding text_count sized
unmistaken l h = by_test (ltb (first_outside (trimmed l)) (length (trimmed l)))
  where
    by_test : (t : Bool) → billed
        (numbers (pick t (Err (Refusal.BadByte (first_outside (trimmed l)))) (of_units (capped (units (trimmed l))) (parts (trimmed l))))) ≡ largest
        → (n : ℕ) × (pick t (Err (Refusal.BadByte (first_outside (trimmed l)))) (of_units (capped (units (trimmed l))) (parts (trimmed l)))
        ≡ Err (Refusal.BadByte n))
    by_test true e = (first_outside (trimmed l), refl)
    by_test false e = absurd (omega (arith, few_parts l h, e))

pub bills : Bills
unfolding text_count sized capped trimmed kept first_outside in_alphabet units cost parts filling onto
bills = record { none = refl; spaces = refl; two = refl; fs = refl; us = refl; cr = refl }
