-- How many text parts a text takes, and what it is to cut a text into parts.
use Rattle.std.specs.Prelude.{◌≡◌, List, [], ◌∷◌, ℕ, ◌+◌, ◌≤◌, leb, eqb, length}
use Rattle.rules.specs.Cell.{pick}
use Rattle.counter.specs.Alphabet.{cost, units}
use Rattle.counter.specs.Pieces.{onto, joined}

-- the most units of a text that goes as one part, and of a part of several
abbrev pub alone : ℕ
alone = 160

abbrev pub of_several : ℕ
of_several = 153

-- the text cut by filling: each part takes whole characters as long as they fit. n units are in the part under way
unfoldable pub filling : ℕ → List ℕ → List (List ℕ)
filling n [] = []
filling n (b ∷ l) =
    let carries_on = onto b (filling (n + cost b) l) in
    let begins = [] ∷ onto b (filling (cost b) l) in
    pick (leb (n + cost b) of_several) carries_on begins

-- no text is no part; up to 160 units are one; beyond that as many as filling makes
unfoldable pub parts : List ℕ → ℕ
parts l = pick (eqb (units l) 0) 0 (pick (leb (units l) alone) 1 (length (filling 0 l)))

-- ---- cuttings

-- each of some texts holds at most 153 units
pub data Small : List (List ℕ) → Type 0 where
  none : Small []
  more : {t : List ℕ} {ts : List (List ℕ)} → units t ≤ of_several → Small ts → Small (t ∷ ts)

-- the sizes: one text of at most 160 units, or any number of at most 153 each
pub data Allowed : List (List ℕ) → Type 0 where
  single : {t : List ℕ} → units t ≤ alone → Allowed (t ∷ [])
  several : {ts : List (List ℕ)} → Small ts → Allowed ts

-- a text cut between characters into texts of these sizes
pub record Cutting (l : List ℕ) (ts : List (List ℕ)) : Type 0 where
  pub text : joined ts ≡ l
  pub sizes : Allowed ts

-- the fewest: no cutting has fewer parts than are counted, and one has just as many
abbrev pub Fewest : Type 0
Fewest = (l : List ℕ) → ((ts : List (List ℕ)) → Cutting l ts → parts l ≤ length ts) × ((ts : List (List ℕ)) × Cutting l ts × (length ts ≡ parts l))
