-- What the exported calls promise: those of the terminal on the state that the numbers name, and its numbers back. Numbers that name no
-- possible state, and a page of another length, answer 7, and the numbers come back as they were.
use Rattle.std.specs.Prelude.{◌≡◌, Bool, true, List, [], ◌⊎◌, ℕ, ◌≤◌, length, drop}
use Rattle.rules.specs.declared.Personality.{Personality}
use Rattle.rules.specs.declared.State.{State}
use Rattle.rules.specs.declared.Position.{Position}
use Rattle.rules.specs.declared.StepResult.{StepResult}
use Rattle.rules.specs.declared.RunResult.{RunResult}
use Rattle.rules.specs.Cell.{pick, both}
use Rattle.rules.specs.Possible.{power_on, possible, good}
use Rattle.rules.specs.State.{number, page_length, cursor_of}
use Rattle.rules.specs.Fields.{position, position_rule}
use Rattle.rules.specs.Room.{over}
use Rattle.rules.specs.Step.{Outcome, step_rule}
use Rattle.rules.specs.Calls.{Ran, Pressed, pressed, power_on_rule, run_rule, press_rule}
use Rattle.wy50.specs.declared.raw.RawState.{RawState}
use Rattle.wy50.specs.declared.raw.RawPowerOn.{RawPowerOn}
use Rattle.wy50.specs.declared.raw.RawStep.{RawStep}
use Rattle.wy50.specs.declared.raw.RawRun.{RawRun}
use Rattle.wy50.specs.declared.raw.RawPress.{RawPress}
use Rattle.wy50.specs.Raw.{all_below, flag, is_personality, personality_at, gathered_in, numbers, packed, unpacked, named}

-- a page of the right length, and numbers that name a possible state
unfoldable pub raw_good : List ℕ → RawState → Bool
raw_good p x = both (named x) (good p (unpacked x))

-- numbers that name a possible state
unfoldable pub raw_possible : RawState → Bool
raw_possible x = both (named x) (possible (unpacked x))

-- the place of the active cursor in a page of the state's width; 7 where there is no such state
unfoldable pub raw_cursor : RawState → Position
raw_cursor x =
    let s = (unpacked x).core.screen in
    pick (raw_possible x) (position_rule (page_length s) (cursor_of s)) (position 7 0 0)

-- an outcome in numbers
pub record RawOutcome : Type 0 where
  pub answer : ℕ
  -- 1 if the byte was taken
  pub taken : ℕ
  pub state : RawState
  pub page : List ℕ
  pub reply : List ℕ

abbrev pub raw : RawState → Outcome → RawOutcome
raw y o = record { answer = o.answer; taken = flag o.taken; state = y; page = o.page; reply = o.reply }

-- the numbers of a power-on state
abbrev pub fresh_numbers : State → RawState
fresh_numbers s = numbers s.gathered s

-- power-on with a personality's number. A number that is none answers 7, leaves the page and gives the state of a WY-50
unfoldable pub raw_power_on : ℕ → List ℕ → RawOutcome
raw_power_on m p =
    let o = power_on_rule (personality_at m) p in
    pick (is_personality m) (raw (fresh_numbers o.state) o)
    (record { answer = 7; taken = 0; state = fresh_numbers (power_on Personality.Wy50); page = p; reply = [] })

-- 7: nothing replied, nothing changed
abbrev pub bad_step : List ℕ → RawState → RawOutcome
bad_step p x = record { answer = 7; taken = 0; state = x; page = p; reply = [] }

unfoldable pub raw_step : List ℕ → RawState → ℕ → ℕ → RawOutcome
raw_step p x b room = let o = step_rule p (unpacked x) b room in pick (raw_good p x) (raw (packed x o.state) o) (bad_step p x)

-- what a step of the terminal's gives, in numbers, handed x
abbrev pub step_numbers : RawState → StepResult → RawStep
step_numbers x t = record { answer = number t.answer; taken = flag t.taken; replied = t.replied; state = packed x t.state }

-- a run with its state in numbers
pub record RawRan : Type 0 where
  pub answer : ℕ
  pub taken : ℕ
  pub refused : ℕ
  pub reply : List ℕ
  pub rest : List ℕ
  pub state : RawState
  pub page : List ℕ

abbrev pub raw_ran : RawState → Ran → RawRan
raw_ran x o = record {
  answer = o.answer;
  taken = o.taken;
  refused = o.refused;
  reply = o.reply;
  rest = o.rest;
  state = packed x o.state;
  page = o.page;
}

abbrev pub run_numbers : RawState → RunResult → RawRun
run_numbers x t = record { answer = number t.answer; taken = t.taken; replied = t.replied; refused = t.refused; state = packed x t.state }

-- 7: zeros, the whole input back, nothing changed
abbrev pub bad_run : List ℕ → RawState → List ℕ → RawRan
bad_run p x l = record { answer = 7; taken = 0; refused = 0; reply = []; rest = l; state = x; page = p }

unfoldable pub raw_run : List ℕ → RawState → List ℕ → ℕ → RawRan
raw_run p x l room =
    pick (raw_good p x) (raw_ran x (run_rule p (unpacked x) l room)) (bad_run p x l)

unfoldable pub raw_press : List ℕ → RawState → ℕ → ℕ → Pressed
raw_press p x v room = pick (named x) (press_rule p (unpacked x) v room) (pressed 7 [])

-- p is the page after the call
pub record PoweredOn (o : RawOutcome) (r : RawPowerOn) (p : List ℕ) : Type 0 where
  pub answer : r.answer ≡ o.answer
  pub state : r.state ≡ o.state
  pub page : p ≡ o.page

-- w is the room before the call, and w' after it
pub record Stepped (o : RawOutcome) (r : RawStep) (p w w' : List ℕ) : Type 0 where
  pub answer : r.answer ≡ o.answer
  pub taken : r.taken ≡ o.taken
  pub state : r.state ≡ o.state
  pub replied : r.replied ≡ length o.reply
  pub page : p ≡ o.page
  pub room : w' ≡ over o.reply w
  -- the reply fits
  pub fits : r.replied ≤ length w

-- l is the input
pub record RunDone (o : RawRan) (r : RawRun) (l p w w' : List ℕ) : Type 0 where
  pub answer : r.answer ≡ o.answer
  pub taken : r.taken ≡ o.taken
  pub replied : r.replied ≡ length o.reply
  pub refused : r.refused ≡ o.refused
  pub rest : drop r.taken l ≡ o.rest
  pub state : r.state ≡ o.state
  pub page : p ≡ o.page
  pub room : w' ≡ over o.reply w
  pub fits : r.replied ≤ length w
  pub within : r.taken ≤ length l

pub record Sent (o : Pressed) (r : RawPress) (w w' : List ℕ) : Type 0 where
  pub answer : r.answer ≡ o.answer
  pub replied : r.replied ≡ length o.reply
  pub room : w' ≡ over o.reply w
  pub fits : r.replied ≤ length w

-- zeros behind the bytes gathered
abbrev pub Clean : RawState → Type 0
Clean x = all_below 1 (drop (gathered_in x.sequence) x.gathered) ≡ true

-- "nothing changed" (document 01): numbers whose state a call leaves come back as they came, whatever stands behind a text or the bytes gathered. So
-- a step that answers 1, 6 or 7 gives back what it was handed. And numbers that have zeros behind the bytes gathered, as at power-on, keep them
pub record AsTheyCame : Type 0 where
  pub left : (x : RawState) → named x ≡ true → packed x (unpacked x) ≡ x
  pub refused : (p : List ℕ) (x : RawState) (b room : ℕ) → let o = raw_step p x b room in
      (o.answer ≡ 1) ⊎ ((o.answer ≡ 6) ⊎ (o.answer ≡ 7)) → (o.state ≡ x) × (o.page ≡ p)
  pub clean : (x : RawState) (s : State) → Clean x → Clean (packed x s)
  pub clean_at_first : (m : Personality) → Clean (fresh_numbers (power_on m))
