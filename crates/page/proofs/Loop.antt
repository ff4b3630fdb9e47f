-- A loop that rewrites a list in place, one element a turn, up or down. `Joined i x y l`: l is x below place i and y from there on.
--     joined_start, joined_end     where a loop going up, or down, begins
--     step_up, step_down           after a turn that stores the element of x, or of y
--     joined_all, joined_none      where such a loop ends
-- Assumes nothing.
use mathlib.Core.Path.{◌≡◌, refl, sym, ◌∙◌}
use mathlib.Core.List.{List}
use mathlib.Core.Logic.{⊎_elim}
use Prim.Native.Nat.{ℕ, ◌+◌, ◌-◌, ◌≤◌, ◌<◌}
use native.Mathlib.Nat.{eq-or-lt_of_le}
use native.Mathlib.Omega.{arith}
use lib.ListN.{length, get_or, set, length-set, get_or-eq_default}
use lib.Seq.{get_or-set_same, get_or-set_other, ext_get_or}

pub record Joined (i : ℕ) (x y l : List ℕ) : Type 0 where
  pub even : length x ≡ length y
  pub long : length l ≡ length y
  pub below : (j : ℕ) → j < i → get_or l j 0 ≡ get_or x j 0
  pub above : (j : ℕ) → i ≤ j → get_or l j 0 ≡ get_or y j 0

module _ {x y : List ℕ} (e : length x ≡ length y) where
  pub joined_start : Joined 0 x y y
  joined_start = record { even = e; long = refl; below = λ j h. absurd (omega arith); above = λ j h. refl }

  pub joined_end : {i : ℕ} → length x ≤ i → Joined i x y x
  joined_end n = record {
    even = e;
    long = e;
    below = λ j h. refl;
    above = λ j h. get_or-eq_default x 0 (omega arith) ∙ sym (get_or-eq_default y 0 (omega arith));
  }

module _ {i : ℕ} {x y l : List ℕ} (k : Joined i x y l) {v : ℕ} where
  pub step_up : i < length y → v ≡ get_or x i 0 → Joined (i + 1) x y (set l i v)
  step_up h w = record {
    even = k.even;
    long = length-set l i v ∙ k.long;
    below = λ j b. ⊎_elim
        (λ s. rw s (get_or-set_same l i v 0 (omega arith) ∙ w))
        (λ s. get_or-set_other l i j v 0 (λ z. omega arith) ∙ k.below j s)
        (eq-or-lt_of_le {n = j} {m = i} (omega arith));
    above = λ j b. get_or-set_other l i j v 0 (λ z. omega arith) ∙ k.above j (omega arith);
  }

  pub step_down : 0 < i → i ≤ length y → v ≡ get_or y (i - 1) 0 → Joined (i - 1) x y (set l (i - 1) v)
  step_down h n w = record {
    even = k.even;
    long = length-set l (i - 1) v ∙ k.long;
    below = λ j b. get_or-set_other l (i - 1) j v 0 (λ z. omega arith) ∙ k.below j (omega arith);
    above = λ j b. ⊎_elim
        (λ s. rw (← s) (get_or-set_same l (i - 1) v 0 (omega arith) ∙ w))
        (λ s. get_or-set_other l (i - 1) j v 0 (λ z. omega arith) ∙ k.above j (omega arith))
        (eq-or-lt_of_le {n = i - 1} {m = j} b);
  }

module _ {i : ℕ} {x y l : List ℕ} (k : Joined i x y l) where
  pub joined_all : length y ≤ i → l ≡ x
  joined_all h = ext_get_or 0 l x (k.long ∙ sym k.even) (λ j b. k.below j (omega arith))

  pub joined_none : i ≤ 0 → l ≡ y
  joined_none h = ext_get_or 0 l y k.long (λ j b. k.above j (omega arith))
