-- Laws of texts: how long they are, and the texts of the bytes gathered.
-- Assumes nothing.
use Rattle.std.specs.Prelude.{◌≡◌, ℕ, zero, suc, ◌-◌, ◌≤◌, min, List, [], ◌∷◌, ◌++◌, length, take, drop, replicate}
use mathlib.Core.Path.{sym, ap, ◌∙◌}
use native.Mathlib.Nat.{zero-sub}
use native.Mathlib.Numerals.{unary_clauses}
use native.Mathlib.Omega.{arith}
use Rattle.std.proofs.lemmas.List.{drop-replicate, length-take, take-replicate, take-take, take_min}
use Rattle.rules.specs.State.{text_of}
use Rattle.rules.specs.Slot.{slot_most}
use Rattle.rules.specs.declared.Slot.{Slot}

-- every text fits the bytes that can be gathered
pub most_fits : (x : Slot) → slot_most x ≤ 46
unfolding slot_most
most_fits (Slot.Key v) = omega arith
most_fits (Slot.Label v) = omega arith
most_fits Slot.Message = omega arith

-- the bytes up to m with zeros behind them, m at most p
pad : (m p : ℕ) (a : List ℕ) → m ≤ p → take m a ++ replicate (m - length a) 0 ≡ take m (a ++ replicate p 0)
pad zero p a h = rw (zero-sub (length a))
pad (suc m) zero a h = absurd (omega arith)
pad (suc m) (suc p) [] h = simp unary_clauses (sym (take-replicate (suc m) (suc p) 0 h))
pad (suc m) p (x ∷ a) h = simp unary_clauses (ap (λ (r : List ℕ). x ∷ r) (pad m p a (omega arith)))

-- a text of m bytes takes k of the n gathered
pub text_is : (m n k : ℕ) (l : List ℕ) → length l ≡ 46 → k ≡ min (min n 46) m
    → record { len = min n 46; bytes = take k l ++ drop k (replicate m 0) } ≡ text_of m (take n l)
text_is m n k l e h =
    let w : length (take n l) ≡ min n 46 = length-take n l ∙ ap (min n) e in
    let q : k ≡ min m (length (take n l)) = omega arith in
    let b : take k l ≡ take m (take n l) =
    sym (take-take k n l (omega arith)) ∙ (ap (λ (j : ℕ). take j (take n l)) q ∙ take_min m (take n l)) in
    let z : drop {A = ℕ} k (replicate m 0) ≡ replicate (m - length (take n l)) 0 = ◌∙◌ {b = replicate (m - k) 0} (drop-replicate k m 0) (ap (λ (j : ℕ). replicate j 0) (omega arith)) in
    rw (w, b, z, pad m m (take n l) (omega arith))
