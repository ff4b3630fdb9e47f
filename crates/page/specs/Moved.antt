-- What a shift makes of every cell, for cells and for whole rows.
use Rattle.std.specs.Prelude.{◌≡◌, Bool, List, ℕ, ◌+◌, ◌-◌, ◌≤◌, ◌<◌, length, get_or}
use Rattle.rules.specs.Cell.{pick}

-- q is p after the cells a up to, not including, e moved by k cells, right or left, and v came in
pub record Moved (right : Bool) (k v a e : ℕ) (p q : List ℕ) : Type 0 where
  pub size : length q ≡ length p
  pub before : (i : ℕ) → i < a → get_or q i 0 ≡ get_or p i 0
  pub after : (i : ℕ) → e ≤ i → get_or q i 0 ≡ get_or p i 0
  -- of two cells k apart, one has what the other had
  pub kept : (i : ℕ) → a ≤ i → i + k < e → get_or q (pick right (i + k) i) 0 ≡ get_or p (pick right i (i + k)) 0
  -- the first k cells, or the last k
  pub new : (i : ℕ) → i < k → a + k ≤ e → get_or q (pick right a (e - k) + i) 0 ≡ v
