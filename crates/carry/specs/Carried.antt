-- What carrying a plan out promises: a result, its page and its room are the effect's.
use Rattle.std.specs.Prelude.{◌≡◌, ℕ, ◌≤◌, false, List, length, nat_eq}
use Rattle.rules.specs.declared.CoreResult.{CoreResult}
use Rattle.rules.specs.State.{number}
use Rattle.rules.specs.Carry.{Effect}
use Rattle.rules.specs.Room.{over}

-- p is the page after the call; w the room before it and w' after it
pub record Carried (e : Effect) (r : CoreResult) (p w w' : List ℕ) : Type 0 where
  pub answer : number r.answer ≡ e.answer
  -- on 6 nothing has changed: the core is the one that was handed in, and the result has none to give
  pub core : nat_eq e.answer 6 ≡ false → r.core ≡ e.core
  pub change : r.change ≡ e.change
  pub replied : r.replied ≡ length e.reply
  pub page : p ≡ e.page
  pub room : w' ≡ over e.reply w
  -- the reply fits
  pub fits : r.replied ≤ length w
