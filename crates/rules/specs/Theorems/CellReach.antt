-- A number is writable exactly if calls from power-on leave it in some cell (document 02, A13): the bytes, and the statement.
use Rattle.std.specs.Prelude.{◌≡◌, Bool, true, List, [], ◌∷◌, ◌++◌, ℕ, eqb, get_or}
use Rattle.rules.specs.declared.State.{State}
use Rattle.rules.specs.declared.Personality.{Personality}
use Rattle.rules.specs.Cell.{pick, code, protected, kind, attribute, normal, null}
use Rattle.rules.specs.Possible.{power_on, blank, good}
use Rattle.rules.specs.Calls.{Call, run_rule, call_rule, play}
use Rattle.rules.specs.RowCalls.{RowCall, row_play}
use Rattle.rules.specs.Convert.{convert_rule}
use Rattle.rules.specs.Theorems.Reach.{attribute_bytes}
use Rattle.rules.specs.Writable.{writable, AllWritable}

-- ESC ) for a protected cell
unfoldable pub protect_bytes : Bool → List ℕ
protect_bytes p = pick p (0x1b ∷ 0x29 ∷ []) []

-- ESC G and the code of an attribute that is not normal
unfoldable pub remember_bytes : ℕ → List ℕ
remember_bytes a = pick (eqb a normal) [] (attribute_bytes a)

-- what stands before a cell's code: nothing for text, ESC H for a graphic, and for an attribute cell ESC G if it is protected, else ESC !
unfoldable pub lead_bytes : ℕ → Bool → List ℕ
lead_bytes k p = pick (eqb k 0) [] (0x1b ∷ pick (eqb k 2) 0x48 (pick p 0x47 0x21) ∷ [])

-- bytes that leave a number in the first cell: none for a null
unfoldable pub cell_bytes : ℕ → List ℕ
cell_bytes v =
    pick (eqb v null) [] (protect_bytes (protected v) ++ (remember_bytes (attribute v) ++ (lead_bytes (kind v) (protected v) ++ code v ∷ [])))

-- the pages and states that calls and conversions to the other width reach from power-on
pub data Reached (m : Personality) : List ℕ → State → Type 0 where
  powered : Reached m blank (power_on m)
  called : {p : List ℕ} {s : State} → Reached m p s → (c : Call) → Reached m (call_rule p s c).page (call_rule p s c).given.state
  turned : {p : List ℕ} {s : State} → Reached m p s → (t : List ℕ) → (convert_rule p s t).answer ≡ 0
      → Reached m (convert_rule p s t).target (convert_rule p s t).state

pub record CellReach : Type 0 where
  -- bytes from power-on leave each writable number in the first cell
  pub writable_left : (m : Personality) (v : ℕ) → writable m v ≡ true → get_or (run_rule blank (power_on m) (cell_bytes v) 1944).page 0 0 ≡ v
  -- whatever calls and conversions from power-on, in whatever order, they leave no other number in any cell
  pub left_writable : (m : Personality) (p : List ℕ) (s : State) → Reached m p s → AllWritable m p
  -- page and state stay good, so the page has the length of a width
  pub left_good : (m : Personality) (p : List ℕ) (s : State) → Reached m p s → good p s ≡ true
  -- lists of calls are among these
  pub played : (m : Personality) (p : List ℕ) (s : State) (calls : List Call) → Reached m p s
      → Reached m (play calls p s).page (play calls p s).state
  -- and calls with row lists too leave no other, l being the list at the start
  pub rows_writable : (m : Personality) (l : List ℕ) (calls : List RowCall)
      → AllWritable m (row_play calls (record { page = blank; rows = l; state = power_on m })).session.page
