-- What every call keeps, of any page and state, bad ones too.
use Rattle.std.specs.Prelude.{◌≡◌, true, List, ℕ, length}
use Rattle.rules.specs.declared.State.{State}
use Rattle.rules.specs.declared.Personality.{Personality}
use Rattle.rules.specs.Row.{narrow_cells}
use Rattle.rules.specs.Possible.{possible, good}
use Rattle.rules.specs.Calls.{power_on_rule, Call, call_rule, play}

-- from a page and a state to a page and a state: the length, the width and the personality stay, and possible stays possible
pub record Keeps (p : List ℕ) (s : State) (q : List ℕ) (t : State) : Type 0 where
  pub size : length q ≡ length p
  pub wide : t.core.screen.wide ≡ s.core.screen.wide
  pub personality : t.core.personality ≡ s.core.personality
  pub state : possible s ≡ true → possible t ≡ true

pub record Kept : Type 0 where
  pub call : (p : List ℕ) (s : State) (c : Call) → Keeps p s (call_rule p s c).page (call_rule p s c).given.state
  pub list : (calls : List Call) (p : List ℕ) (s : State) → Keeps p s (play calls p s).page (play calls p s).state
  -- a good page and state stay good, and power_on_lem gives such
  pub stays_good : (calls : List Call) (p : List ℕ) (s : State) → good p s ≡ true → good (play calls p s).page (play calls p s).state ≡ true
  pub power_on_lem : (m : Personality) (p : List ℕ) → length p ≡ narrow_cells → good (power_on_rule m p).page (power_on_rule m p).state ≡ true
