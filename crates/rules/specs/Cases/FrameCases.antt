-- The other side of Frames: each part that a row lists does change, in a worked case.
use Rattle.std.specs.Prelude.{Bool, true, false, not, ◌≡◌, List, [], ◌∷◌, ◌++◌, map, ℕ, ◌-◌, eqb, get_or}
use Rattle.rules.specs.declared.State.{State}
use Rattle.rules.specs.declared.Text.{Text}
use Rattle.rules.specs.declared.Personality.TheVariants as Personality
use Rattle.rules.specs.Cell.{pick, both, either, same}
use Rattle.rules.specs.Decode.{decode_rule}
use Rattle.rules.specs.Step.{step_rule}
use Rattle.rules.specs.Cases.Bench.{bit}
use Rattle.rules.specs.Cases.Inputs.{page_of, typed}
use Rattle.rules.specs.Theorems.Parts.{Part, Value, place, value, area_of}
use Rattle.rules.specs.Theorems.Parts as Part
use Rattle.rules.specs.Theorems.Frames.{changes}
use Rattle.rules.specs.Cases.Trials.{Trial}
use Rattle.rules.specs.Cases.MovingCases.{moving_trials}
use Rattle.rules.specs.Cases.WritingCases.{writing_trials}
use Rattle.rules.specs.Cases.ReplyCases.{mode_trials}
use Rattle.rules.specs.Theorems.Areas.{area_from, area_to}

-- what a part holds, as numbers
unfoldable pub text_numbers : List (Text 8) → List ℕ
text_numbers [] = []
text_numbers (t ∷ l) = t.len ∷ (t.bytes ++ text_numbers l)

unfoldable pub numbers_of : Value → List ℕ
numbers_of (Part.Flag b) = bit b ∷ []
numbers_of (Part.Number n) = n ∷ []
numbers_of (Part.Flags l) = map bit l
numbers_of (Part.Numbers l) = l
numbers_of (Part.Texts l) = text_numbers l
numbers_of (Part.Long t) = t.len ∷ t.bytes
numbers_of (Part.Named m) = []

-- a part holds other numbers in t than in s
unfoldable pub differs : List ℕ → State → List ℕ → State → Part → Bool
differs p s q t x =
    let n = t.core.screen.active in
    not (same (numbers_of (value x n t.core t.setup q)) (numbers_of (value x n s.core s.setup p)))

-- the row of the last byte's command, and which part the last byte changes
unfoldable pub row_of : Trial → List Part
row_of t = changes (decode_rule (typed t.before (page_of t.cells) t.state).state.core.pending t.byte)

unfoldable pub shows : Trial → Part → Bool
shows t x =
    let r = typed t.before (page_of t.cells) t.state in
    let o = step_rule r.page r.state t.byte 3192 in
    differs r.page r.state o.page o.state x

unfoldable pub any_shows : List Trial → Part → Bool
any_shows [] x = false
any_shows (t ∷ l) x = either (shows t x) (any_shows l x)

unfoldable pub all_shown : List Part → List Trial → Bool
all_shown [] l = true
all_shown (x ∷ r) l = both (any_shows l x) (all_shown r l)

unfoldable pub one_row : List Part → List Trial → Bool
one_row r [] = true
one_row r (t ∷ l) = both (same (map place (row_of t)) (map place r)) (one_row r l)

-- a trial that changes the page changes the first and the last cell of its command's area
unfoldable pub differs_at : List ℕ → List ℕ → ℕ → Bool
differs_at p q i = not (eqb (get_or q i 0) (get_or p i 0))

unfoldable pub edges_shown : Trial → Bool
edges_shown t =
    let r = typed t.before (page_of t.cells) t.state in
    let q = (step_rule r.page r.state t.byte 3192).page in
    let x = r.state.core.screen in
    let m = r.state.core.modes in
    let a = area_of (row_of t) in
    either (not (shows t Part.page)) (both (differs_at r.page q (area_from a x m)) (differs_at r.page q (area_to a x m - 1)))

unfoldable pub all_edges : List Trial → Bool
all_edges [] = true
all_edges (t ∷ l) = both (edges_shown t) (all_edges l)

-- trials of one row, that show each of its parts change
unfoldable pub row_shown : List Trial → Bool
row_shown [] = false
row_shown (t ∷ l) = both (one_row (row_of t) l) (both (all_shown (row_of t) (t ∷ l)) (all_edges (t ∷ l)))

unfoldable pub rows_shown : List (List Trial) → Bool
rows_shown [] = true
rows_shown (r ∷ l) = both (row_shown r) (rows_shown l)

pub record FramesShown : Type 0 where
  pub moving : rows_shown moving_trials ≡ true
  pub writing : rows_shown writing_trials ≡ true
  pub modes : rows_shown mode_trials ≡ true
