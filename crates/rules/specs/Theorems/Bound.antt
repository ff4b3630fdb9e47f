-- "No reply exceeds 1,944 bytes" (document 01, "Numbers that come back"), on a wide page 3,192 (document 02, A11).
use Rattle.std.specs.Prelude.{◌≡◌, Bool, true, List, ℕ, ◌<◌, ◌≤◌, length}
use Rattle.rules.specs.declared.State.{State}
use Rattle.rules.specs.Cell.{pick}
use Rattle.rules.specs.State.{sends}
use Rattle.rules.specs.Possible.{good}
use Rattle.rules.specs.Send.{places, bytes_of}
use Rattle.rules.specs.Step.{step_rule}

-- how long a reply can be, of a wide page or not
unfoldable pub longest : Bool → ℕ
longest wide = pick wide 3192 1944

-- what is left of the send under way
abbrev pub left_over : List ℕ → State → List ℕ
left_over p s = bytes_of (places p s.core s.sending)

-- a step on a page of that width that replies n bytes
pub record RepliesBytes (wide : Bool) (n : ℕ) : Type 0 where
  pub page : List ℕ
  pub state : State
  pub byte : ℕ
  pub room : ℕ
  pub width : state.core.screen.wide ≡ wide
  pub count : length (step_rule page state byte room).reply ≡ n

pub record ReplyBound : Type 0 where
  -- of any page and state, with any room
  pub most : (p : List ℕ) (s : State) (b room : ℕ) → length (step_rule p s b room).reply ≤ longest s.core.screen.wide
  -- some reply is as long
  pub reached : (wide : Bool) → RepliesBytes wide (longest wide)
  -- of one that is under way less is left
  pub left : (p : List ℕ) (s : State) → good p s ≡ true → sends s.sending ≡ true → length (left_over p s) < longest s.core.screen.wide
