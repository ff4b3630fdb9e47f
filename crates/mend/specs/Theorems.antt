-- What request A13 of document 02 says of mending, the statement.
use Rattle.std.specs.Prelude.{◌≡◌, true, false, List, [], ◌∷◌, ℕ, get_or, set}
use Rattle.rules.specs.declared.Personality.{Personality}
use Rattle.rules.specs.declared.State.{State}
use Rattle.rules.specs.Cell.{null}
use Rattle.rules.specs.Writable.{writable, AllWritable}
use Rattle.rules.specs.Theorems.CellReach.{Reached}
use Rattle.mend.specs.Mend.{mended, damaged, outcome, mend_rule}

-- old numbers put back at their places
unfoldable pub put_back : List (ℕ × ℕ) → List ℕ → List ℕ
put_back [] p = p
put_back (c ∷ l) p = put_back l (set p c.0 c.1)

pub record Mending : Type 0 where
  -- after a mending every cell is writable
  pub all_writable : (m : Personality) (p l : List ℕ) → (mend_rule m p l).answer ≡ 0 → AllWritable m (mend_rule m p l).page
  -- writable cells stay, the others become nulls
  pub kept : (m : Personality) (p l : List ℕ) (at : ℕ) → writable m (get_or p at 0) ≡ true → get_or (mend_rule m p l).page at 0 ≡ get_or p at 0
  pub cleared : (m : Personality) (p l : List ℕ) (at : ℕ) → (mend_rule m p l).answer ≡ 0 → writable m (get_or p at 0) ≡ false
      → get_or (mend_rule m p l).page at 0 ≡ null
  -- mending twice equals mending once: the second, whatever its list, needs no entries and changes nothing
  pub twice : (m : Personality) (p l k : List ℕ) → (mend_rule m p l).answer ≡ 0
      → mend_rule m (mend_rule m p l).page k ≡ outcome 0 0 (mend_rule m p l).page k
  -- so does a mending of any page that a terminal of the personality leaves, whatever calls and conversions from power-on
  pub sound : (m : Personality) (p l : List ℕ) (s : State) → Reached m p s → mend_rule m p l ≡ outcome 0 0 p l
  -- refused: nothing has changed
  pub refused : (m : Personality) (p l : List ℕ) → ((mend_rule m p l).answer ≡ 0 → ⊥)
      → mend_rule m p l ≡ outcome (mend_rule m p l).answer (mend_rule m p l).needed p l
  -- the old numbers that are listed, put back at their places, are all that a mending changed
  pub undone : (m : Personality) (p : List ℕ) → put_back (damaged m 0 p) (mended m p) ≡ p
  -- how many entries are needed does not hang on the list
  pub needed : (m : Personality) (p l k : List ℕ) → (mend_rule m p l).needed ≡ (mend_rule m p k).needed
