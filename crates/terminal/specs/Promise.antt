-- What the public calls promise: every field of the result, every cell of the page and every byte of the room are those of the rules.
use Rattle.std.specs.Prelude.{◌≡◌, ℕ, ◌≤◌, List, [], length, drop, nat_le, nat_eq, Result, Ok, Err, is_ok}
use Rattle.std.specs.Result.{result_unwrap_or}
use Rattle.rules.specs.declared.Answer.{Answer}
use Rattle.rules.specs.declared.PowerOn.{PowerOn}
use Rattle.rules.specs.declared.StepResult.{StepResult}
use Rattle.rules.specs.declared.RunResult.{RunResult}
use Rattle.rules.specs.declared.State.{State}
use Rattle.rules.specs.Cell.{pick}
use Rattle.rules.specs.State.{number}
use Rattle.rules.specs.Step.{Outcome}
use Rattle.rules.specs.Calls.{Ran, Pressed, pressed}
use Rattle.rules.specs.Room.{over}
use Rattle.rules.specs.Convert.{Turned}

-- p is the page after the call
pub record PoweredOn (o : Outcome) (r : PowerOn) (p : List ℕ) : Type 0 where
  pub answer : number r.answer ≡ o.answer
  pub state : r.state ≡ o.state
  pub page : p ≡ o.page

-- w is the room before the call, and w' after it
pub record Stepped (o : Outcome) (r : StepResult) (p w w' : List ℕ) : Type 0 where
  pub answer : number r.answer ≡ o.answer
  pub taken : r.taken ≡ o.taken
  pub state : r.state ≡ o.state
  pub replied : r.replied ≡ length o.reply
  pub page : p ≡ o.page
  pub room : w' ≡ over o.reply w
  -- the reply fits
  pub fits : r.replied ≤ length w

-- l is the input; `rest` of it is what `rest` hands back
pub record RunDone (o : Ran) (r : RunResult) (l p w w' : List ℕ) : Type 0 where
  pub answer : number r.answer ≡ o.answer
  pub taken : r.taken ≡ o.taken
  pub replied : r.replied ≡ length o.reply
  pub refused : r.refused ≡ o.refused
  pub rest : drop r.taken l ≡ o.rest
  pub state : r.state ≡ o.state
  pub page : p ≡ o.page
  pub room : w' ≡ over o.reply w
  pub fits : r.replied ≤ length w
  pub within : r.taken ≤ length l

-- the number of the answer of a call that gives a value or refuses
abbrev pub answer_of : {T : Type 0} → Result T Answer → ℕ
answer_of (Ok x) = 0
answer_of (Err a) = number a

-- a press that sends a text, or 6
abbrev pub sending : List ℕ → ℕ → Pressed
sending l room = pick (nat_le (length l) room) (pressed 0 l) (pressed 6 [])

-- r is how many bytes were replied, or why none were
pub record KeySent (o : Pressed) (r : Result ℕ Answer) (w w' : List ℕ) : Type 0 where
  pub answer : answer_of r ≡ o.answer
  pub done : is_ok r ≡ nat_eq o.answer 0
  pub replied : result_unwrap_or r 0 ≡ length o.reply
  pub room : w' ≡ over o.reply w
  pub fits : result_unwrap_or r 0 ≤ length w

-- r is the state on the target, or why there is none; s is the state before, which is then left, and t the target after the call
pub record Turns (s : State) (o : Turned) (r : Result State Answer) (t : List ℕ) : Type 0 where
  pub answer : answer_of r ≡ o.answer
  pub done : is_ok r ≡ nat_eq o.answer 0
  pub state : result_unwrap_or r s ≡ o.state
  pub target : t ≡ o.target

-- a list that was made anew, or not
pub record Rebuilt (o : ℕ) (r : Result (Unit {0}) Answer) : Type 0 where
  pub answer : answer_of r ≡ o
  pub done : is_ok r ≡ nat_eq o 0
