-- Laws of tests: what a test that is true says, and how it comes to be true.
-- Assumes nothing.
use mathlib.Core.Path.{◌≡◌, refl}
use mathlib.Core.Bool.{Bool, true, false, false≢true}
use mathlib.Core.Logic.{◌⊎◌, inl, inr}
use Prim.Native.Nat.{ℕ, ◌+◌, ◌≤◌, ◌<◌}
use lib.Dec.{leb, ltb}
use borrow.Author.Tests.{leb-true, ltb-true, lt-ltb, le-leb, eq-eqb}
use Rattle.rules.specs.Cell.{pick, both, either, between, among}

-- a choice has what each of its sides has, each with what the test says
pub pick_if : {A : Type 0} (P : A → Type 0) (t : Bool) {a b : A} → (t ≡ true → P a) → (t ≡ false → P b) → P (pick t a b)
pick_if P true f g = f refl
pick_if P false f g = g refl

pub either_way : (t : Bool) → (t ≡ true) ⊎ (t ≡ false)
either_way true = inl refl
either_way false = inr refl

pub both_parts : (a b : Bool) → both a b ≡ true → (a ≡ true) × (b ≡ true)
both_parts true b e = (refl, e)
both_parts false b e = absurd (false≢true e)

pub both_true : {a b : Bool} → a ≡ true → b ≡ true → both a b ≡ true
both_true e f = rw (e, f)

pub either_parts : (a b : Bool) → either a b ≡ true → (a ≡ true) ⊎ (b ≡ true)
either_parts true b e = inl refl
either_parts false b e = inr e

pub either_first : {a : Bool} (b : Bool) → a ≡ true → either a b ≡ true
either_first b e = rw e

pub either_second : (a : Bool) {b : Bool} → b ≡ true → either a b ≡ true
either_second true e = refl
either_second false e = e

pub between_parts : (first last v : ℕ) → between first last v ≡ true → (first ≤ v) × (v < last + 1)
between_parts first last v e =
    let r = both_parts (leb first v) (ltb v (last + 1)) e in
    (leb-true first v r.0, ltb-true v (last + 1) r.1)

pub among_parts : (first n v : ℕ) → among first n v ≡ true → (first ≤ v) × (v < first + n)
among_parts first n v e =
    let r = both_parts (leb first v) (ltb v (first + n)) e in
    (leb-true first v r.0, ltb-true v (first + n) r.1)

-- a conjunction of comparisons, from facts in reach
pub ruleset tests = (both_true, lt-ltb, le-leb, eq-eqb)
