-- Laws of the loops that translate an array.
--     begin, go, at, finish     such a loop's start, a turn, its count by another name, its end
-- Assumes nothing.
use mathlib.Core.Path.{◌≡◌, refl, sym, ◌∙◌, subst}
use mathlib.Core.List.{List, map}
use Prim.Native.Nat.{ℕ, ◌+◌, ◌≤◌, ◌<◌}
use native.Mathlib.Omega.{arith}
use native.Mathlib.Numerals.{add-one}
use lib.ListN.{length, take, get_or, set, length-set, length-map, get_or-map}
use lib.Seq.{take_all, take-suc, take-suc-set}

-- an array t that is written element by element: its first i are those of the map
pub record Translated {A B : Type 0} (f : A → B) (l : List A) (t : List B) (i : ℕ) : Type 0 where
  pub within : i ≤ length l
  pub size : length t ≡ length l
  pub front : take i t ≡ take i (map f l)

module _ {A B : Type 0} (f : A → B) (l : List A) (t : List B) where
  pub begin : length t ≡ length l → Translated f l t 0
  begin e = record { within = omega arith; size = e; front = refl }

  pub go : (i : ℕ) (d : A) {v : B} → Translated f l t i → i < length l → v ≡ f (get_or l i d) → Translated f l (set t i v) (i + 1)
  go i d {v} x h e =
      let m : i < length (map f l) = omega (arith, length-map l f) in
      let h' : i < length t = omega (arith, x.size) in
      record {
        within = omega arith;
        size = length-set t i v ∙ x.size;
        front = rw (add-one, take-suc-set t i v h', x.front, take-suc (map f l) i (f d) m, get_or-map f l i d, e);
      }

  pub at : (i k : ℕ) → i ≡ k → Translated f l t i → Translated f l t k
  at i k e x = subst (λ (n : ℕ). Translated f l t n) e x

  pub finish : (i : ℕ) → Translated f l t i → length l ≤ i → t ≡ map f l
  finish i x h =
      sym (take_all i t (omega (arith, x.size))) ∙ x.front ∙ take_all i (map f l) (omega (arith, length-map l f))
