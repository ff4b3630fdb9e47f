-- The stretches read forwards, as the proposer's loop finds them. Only proofs and the contracts of inner functions name these.
use Rattle.std.specs.Prelude.{◌≡◌, ℕ, suc, ◌+◌, ◌≤◌, List, [], ◌∷◌, length, take, drop, ◌==◌}
use Rattle.std.proofs.lemmas.List.Edits.{sets}
use Rattle.rules.specs.Cell.{pick}
use Rattle.repaint.specs.Proposal.{Stretch, stretch, ends_row, differing, last_shown, stretches, rows_of, columns_of, lengths_of, paint_bytes}

-- how many cells the stretch has that begins at a cell: none where the cell is equal. `at` is the place of the lists' first cells
unfoldable pub reach : ℕ → List ℕ → List ℕ → ℕ
reach at [] b = 0
reach at (x ∷ a) [] = 0
reach at (x ∷ a) (y ∷ b) = let r = suc (pick (ends_row at) 0 (reach (suc at) a b)) in pick (x == y) 0 r

-- the stretches from a cell of the pages on
abbrev pub stretches_from : List ℕ → List ℕ → ℕ → List Stretch
stretches_from a b at = differing at (drop at a) (drop at b)

-- the stretch of k cells of the page b, or none
unfoldable pub one_of : ℕ → ℕ → List ℕ → List Stretch
one_of at k b = pick (k == 0) [] (stretch at (take k (drop at b)) ∷ [])

-- where to look on behind it
abbrev pub beyond : ℕ → ℕ → ℕ
beyond at k = pick (k == 0) (at + 1) (at + k)

-- the attribute remembered after some stretches
unfoldable pub shown_after : ℕ → List Stretch → ℕ
shown_after a [] = a
shown_after a (s ∷ l) = shown_after (last_shown a s.cells) l

-- numbers put into a lent list from a place on: w is the list before and w' after; r is the place behind them
pub record Put (n : ℕ) (numbers w : List ℕ) (r : ℕ) (w' : List ℕ) : Type 0 where
  pub place : r ≡ n + length numbers
  pub room : w' ≡ sets w n numbers

-- the spans of some stretches put into three lists
pub record SpansPut (n : ℕ) (l : List Stretch) (x y z : List ℕ) (r : ℕ) (x' y' z' : List ℕ) : Type 0 where
  pub rows : Put n (rows_of l) x r x'
  pub columns : Put n (columns_of l) y r y'
  pub lengths : Put n (lengths_of l) z r z'

-- lists that hold the spans and the bytes from a to b
pub record Holding (a b x y z o : List ℕ) : Type 0 where
  pub rows : length (stretches a b) ≤ length x
  pub columns : length (stretches a b) ≤ length y
  pub lengths : length (stretches a b) ≤ length z
  pub few : length (stretches a b) ≤ 960
  pub bytes : length (paint_bytes a b) ≤ length o
