-- The conversion of a page and a state to the other width (document 02, A11), and what holds of it.
use Rattle.std.specs.Prelude.{Bool, false, not, List, [], ◌∷◌, ◌++◌, ℕ, zero, suc, ◌+◌, ◌-◌, ◌*◌, eqb, ltb, leb, length, get_or, take, replicate}
use Rattle.rules.specs.declared.Core.{Core}
use Rattle.rules.specs.declared.State.{State}
use Rattle.rules.specs.declared.Land.TheVariants as Land
use Rattle.rules.specs.Cell.{pick, both, either, null}
use Rattle.rules.specs.Row.{height, columns, row_of, column_of}
use Rattle.rules.specs.Search.{guarded_at}
use Rattle.rules.specs.State.{with_screen, with_tabs, sends}
use Rattle.rules.specs.Possible.{good}
use Rattle.rules.specs.Plan.{unsplit_screen}
use Rattle.rules.specs.Carry.{landed}

-- n numbers, those of f from i on
unfoldable pub tabulated : (ℕ → ℕ) → ℕ → ℕ → List ℕ
tabulated f i zero = []
tabulated f i (suc n) = f i ∷ tabulated f (suc i) n

-- the cell of a page of v columns that comes to cell i of one of w columns: that of its row and column, or an unprotected null where the page has no
-- such column
unfoldable pub cell_for : ℕ → ℕ → List ℕ → ℕ → ℕ
cell_for v w p i = pick (ltb (column_of w i) v) (get_or p (row_of w i * v + column_of w i) 0) null

abbrev pub other_width : Bool → ℕ
other_width wide = columns (not wide)

unfoldable pub converted : Bool → List ℕ → List ℕ
converted wide p = tabulated (cell_for (columns wide) (other_width wide) p) 0 (height * other_width wide)

-- some cell beyond w columns is not 0, v being the page's width and i its first cell
unfoldable pub loses : ℕ → ℕ → ℕ → List ℕ → Bool
loses v w i [] = false
loses v w i (x ∷ l) = let t = loses v w (suc i) l in either (both (leb w (column_of v i)) (not (eqb x 0))) t

-- the core, unsplit as by ESC x 0 and settled on the page q
abbrev pub core_on : List ℕ → Core → Core
core_on q c = landed (guarded_at c.modes.protect q) (Land.Settle 0) (with_screen c (unsplit_screen (not c.screen.wide)))

-- no tab stops beyond w columns
abbrev pub stops_within : ℕ → List Bool → List Bool
stops_within w tabs = take w tabs ++ replicate (132 - w) false

-- the rest is as it was, the sequence under way too
unfoldable pub state_on : List ℕ → State → State
state_on q s = record {
  core = core_on q s.core;
  sending = s.sending;
  gathered = s.gathered;
  setup = with_tabs s.setup (stops_within (other_width s.core.screen.wide) s.setup.tabs);
}

-- the answer, the target page and the state; the old page stays
pub record Turned : Type 0 where
  pub answer : ℕ
  pub target : List ℕ
  pub state : State

abbrev pub unturned : ℕ → List ℕ → State → Turned
unturned n t s = record { answer = n; target = t; state = s }

-- 7 for a bad page, state or target; 6 in a send; 4 where a cell would be lost
unfoldable pub convert_rule : List ℕ → State → List ℕ → Turned
convert_rule p s t =
    let wide = s.core.screen.wide in
    let q = converted wide p in
    let done : Turned = record { answer = 0; target = q; state = state_on q s } in
    pick (both (good p s) (eqb (length t) (height * other_width wide)))
    (pick (sends s.sending) (unturned 6 t s) (pick (loses (columns wide) (other_width wide) 0 p) (unturned 4 t s) done)) (unturned 7 t s)
