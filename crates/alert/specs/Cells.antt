-- What the functions over cells promise.
use Rattle.std.specs.Prelude.{◌≡◌, ℕ, ◌+◌, ◌*◌, ◌<◌, ◌≤◌, Bool, List, length, take, drop, ◌≢◌, slice_index}
use Rattle.rules.specs.Row.{columns}

-- row r of a page, from 0
abbrev pub row_on : Bool → List ℕ → ℕ → List ℕ
row_on wide p r = take (columns wide) (drop (r * columns wide) p)

-- r is the length of a text without its trailing spaces
pub record Trimmed (text : List ℕ) (r : ℕ) : Type 0 where
  pub most : r ≤ length text
  pub spaces : (k : ℕ) → r ≤ k → k < length text → slice_index text k ≡ 32
  pub last : (k : ℕ) → r ≡ k + 1 → slice_index text k ≢ 32
