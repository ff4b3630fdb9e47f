-- How large the numbers of a count are.
--     exact         the units of a text in memory are told whole
--     few_parts     a text that fits in memory has fewer parts than the largest number
-- Assumes nothing.
use mathlib.Core.Bool.{Bool, true, false}
use mathlib.Core.List.{List, [], ◌∷◌}
use Prim.Native.Nat.{ℕ, suc, ◌+◌, ◌*◌, ◌≤◌}
use native.Mathlib.Omega.{arith}
use lib.Dec.{leb, eqb}
use lib.ListN.{length}
use Rattle.rules.specs.Cell.{pick}
use Rattle.counter.specs.Alphabet.{space, cost, units}
use Rattle.rules.specs.Fields.{kept, trimmed}
use Rattle.counter.specs.Parts.{alone, of_several, filling, parts}
use Rattle.counter.specs.Count.{Exact, FewParts}
use Rattle.counter.proofs.Fewest.{cost_some, cost_small, opened, opened_fits, opened_new, filling_length}
use Rattle.counter.proofs.Texts.{capped_small}

kept_length : (b : ℕ) (l : List ℕ) → length (kept b l) ≤ suc (length l)
unfolding kept
kept_length b [] = by_test (eqb b space)
  where
    by_test : (t : Bool) → length (pick t [] (b ∷ [])) ≤ 1
    by_test true = omega arith
    by_test false = omega arith
kept_length b (x ∷ l) = omega arith

trimmed_length : (l : List ℕ) → length (trimmed l) ≤ length l
unfolding trimmed
trimmed_length [] = omega arith
trimmed_length (b ∷ l) = omega (arith, kept_length b (trimmed l), trimmed_length l)

units_most : (l : List ℕ) → units l ≤ 2 * length l
unfolding units
units_most [] = omega arith
units_most (b ∷ l) = omega (arith, cost_small b, units_most l)

pub exact : Exact
exact l h = capped_small (units (trimmed l)) (omega (arith, units_most (trimmed l), trimmed_length l))

-- at most a part for each character
opened_most : (n : ℕ) (l : List ℕ) → opened n l ≤ length l
unfolding opened
opened_most n [] = omega arith
opened_most n (b ∷ l) = by_test (leb (n + cost b) of_several) (opened_most (n + cost b) l) (opened_most (cost b) l)
  where
    by_test : (t : Bool) → opened (n + cost b) l ≤ length l → opened (cost b) l ≤ length l
        → pick t (opened (n + cost b) l) (suc (opened (cost b) l)) ≤ suc (length l)
    by_test true h k = omega arith
    by_test false h k = omega arith

-- the second goes with the first
filling_fewer : (a b : ℕ) (l : List ℕ) → length (filling 0 (a ∷ b ∷ l)) ≤ suc (length l)
filling_fewer a b l =
    let x = filling_length (a ∷ b ∷ l) in
    let y = opened_new of_several a (b ∷ l) (omega (arith, cost_some a)) in
    let z = opened_fits (cost a) b l (omega (arith, cost_small a, cost_small b)) in
    let w = opened_most (cost a + cost b) l in
    omega arith

few : (s t : Bool) (n m : ℕ) → n ≤ suc m → pick s 0 (pick t 1 n) ≤ suc m
few true t n m h = omega arith
few false true n m h = omega arith
few false false n m h = h

parts_most : (l : List ℕ) (n : ℕ) → 1 ≤ n → length l ≤ suc n → parts l ≤ n
unfolding parts
parts_most [] n h k =
    omega (
      arith,
      few (eqb (units []) 0) (leb (units []) alone) (length (filling 0 [])) 0
          (omega (arith, filling_length [], opened_most of_several [])),
    )
parts_most (a ∷ []) n h k =
    omega (
      arith,
      few (eqb (units (a ∷ [])) 0) (leb (units (a ∷ [])) alone) (length (filling 0 (a ∷ []))) 0
          (omega (arith, filling_length (a ∷ []), opened_most of_several (a ∷ []))),
    )
parts_most (a ∷ b ∷ l) n h k =
    omega (arith, few (eqb (units (a ∷ b ∷ l)) 0) (leb (units (a ∷ b ∷ l)) alone) _ (length l) (filling_fewer a b l))

pub few_parts : FewParts
few_parts l h =
    let x = parts_most (trimmed l) 18446744073709551614 (omega arith) (omega (arith, trimmed_length l)) in
    omega arith
