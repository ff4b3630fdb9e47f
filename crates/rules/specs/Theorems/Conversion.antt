-- What a conversion to the other width keeps (document 02, A11).
use Rattle.std.specs.Prelude.{◌≡◌, true, false, List, ℕ, ◌+◌, ◌-◌, ◌*◌, ◌<◌, ◌≤◌, length, get_or}
use Rattle.rules.specs.declared.Core.{Core}
use Rattle.rules.specs.declared.State.{State}
use Rattle.rules.specs.declared.Land.TheVariants as Land
use Rattle.rules.specs.Cell.{null}
use Rattle.rules.specs.Row.{height, column_of}
use Rattle.rules.specs.Search.{guarded_at}
use Rattle.rules.specs.State.{width_of, with_screen, sends}
use Rattle.rules.specs.Possible.{good}
use Rattle.rules.specs.Plan.{unsplit_screen}
use Rattle.rules.specs.Carry.{landed}
use Rattle.rules.specs.Convert.{other_width, Turned, unturned, convert_rule}

-- what a switch to the other width and back clears: the split, both cursors, which are at home and settled
abbrev pub home_on : List ℕ → Core → Core
home_on q c = landed (guarded_at c.modes.protect q) (Land.Settle 0) (with_screen c (unsplit_screen c.screen.wide))

-- a narrow page and state widened and narrowed again
pub record Back (p : List ℕ) (s : State) (r : Turned) : Type 0 where
  pub answer : r.answer ≡ 0
  pub page : r.target ≡ p
  pub core : r.state.core ≡ home_on p s.core
  pub sending : r.state.sending ≡ s.sending
  pub gathered : r.state.gathered ≡ s.gathered
  pub setup : r.state.setup ≡ s.setup

-- a cell of a page of v columns beyond w columns that is not 0
pub record Lost (v w : ℕ) (p : List ℕ) : Type 0 where
  pub cell : ℕ
  pub inside : cell < length p
  pub beyond : w ≤ column_of v cell
  pub written : get_or p cell 0 ≡ 0 → ⊥

pub record Conversion : Type 0 where
  -- a good page and state stay good, at the other width
  pub stays_good : (p : List ℕ) (s : State) (t : List ℕ) → (convert_rule p s t).answer ≡ 0
      → (good (convert_rule p s t).target (convert_rule p s t).state ≡ true)
      × (width_of (convert_rule p s t).state.core.screen ≡ other_width s.core.screen.wide)
  -- refused: nothing has changed
  pub refused : (p : List ℕ) (s : State) (t : List ℕ) → ((convert_rule p s t).answer ≡ 0 → ⊥)
      → convert_rule p s t ≡ unturned (convert_rule p s t).answer t s
  -- outside a send, 4 exactly if a cell is lost
  pub lost : (p : List ℕ) (s : State) (t : List ℕ) → (convert_rule p s t).answer ≡ 4
      → Lost (width_of s.core.screen) (other_width s.core.screen.wide) p
  pub barred : (p : List ℕ) (s : State) (t : List ℕ) → good p s ≡ true → length t ≡ height * other_width s.core.screen.wide
      → sends s.sending ≡ false
      → Lost (width_of s.core.screen) (other_width s.core.screen.wide) p → (convert_rule p s t).answer ≡ 4
  -- each cell of the old page that the other width has is where it was
  pub cells : (p : List ℕ) (s : State) (t : List ℕ) (row column : ℕ) → (convert_rule p s t).answer ≡ 0 → row < height
      → column < width_of s.core.screen
      → column < other_width s.core.screen.wide
      → get_or (convert_rule p s t).target (row * other_width s.core.screen.wide + column) 0 ≡ get_or p (row * width_of s.core.screen + column) 0
  -- the others are nulls
  pub nulls : (p : List ℕ) (s : State) (t : List ℕ) (row column : ℕ) → (convert_rule p s t).answer ≡ 0 → row < height
      → width_of s.core.screen ≤ column
      → column < other_width s.core.screen.wide
      → get_or (convert_rule p s t).target (row * other_width s.core.screen.wide + column) 0 ≡ null
  -- widening, and then narrowing, gives page and state back; a state holds 132 tab stops
  pub back : (p : List ℕ) (s : State) (t u : List ℕ) → s.core.screen.wide ≡ false → length s.setup.tabs ≡ 132 → (convert_rule p s t).answer ≡ 0
      → length u ≡ length p
      → Back p s (convert_rule (convert_rule p s t).target (convert_rule p s t).state u)
