-- The pieces of a reply, and the text that some of them make.
use Rattle.std.specs.Prelude.{Bool, List, [], ◌∷◌, ◌++◌, ℕ, ◌+◌, ◌-◌, eqb, length, get_or, take, drop}
use Rattle.rules.specs.Cell.{pick, either}

-- a reply's last byte is a CR
unfoldable pub returns : List ℕ → Bool
returns r = eqb (get_or r (length r - 1) 0) 0x0d

-- what stands before it
abbrev pub before : List ℕ → List ℕ
before r = take (length r - 1) r

-- FS and US
unfoldable pub is_mark : ℕ → Bool
is_mark b = either (eqb b 0x1c) (eqb b 0x1f)

-- a byte put before the first of some texts
unfoldable pub onto : ℕ → List (List ℕ) → List (List ℕ)
onto b [] = (b ∷ []) ∷ []
onto b (t ∷ ts) = (b ∷ t) ∷ ts

-- a text cut at each mark: n marks, n + 1 pieces, some of them perhaps empty
unfoldable pub cut_at_marks : List ℕ → List (List ℕ)
cut_at_marks [] = [] ∷ []
cut_at_marks (b ∷ l) = pick (is_mark b) ([] ∷ cut_at_marks l) (onto b (cut_at_marks l))

-- the pieces of a reply, none without its final CR
unfoldable pub pieces : List ℕ → List (List ℕ)
pieces r = pick (returns r) (cut_at_marks (before r)) []

-- the piece of a number, from 1; nothing where no piece has it
unfoldable pub piece_of : List ℕ → ℕ → List ℕ
piece_of r n = pick (eqb n 0) [] (get_or (pieces r) (n - 1) [])

-- texts joined with nothing between
unfoldable pub joined : List (List ℕ) → List ℕ
joined [] = []
joined (t ∷ ts) = t ++ joined ts

-- the whole: the pieces from the first number to the last, joined
unfoldable pub whole : List ℕ → ℕ → ℕ → List ℕ
whole r first last = joined (take (last + 1 - first) (drop (first - 1) (pieces r)))
