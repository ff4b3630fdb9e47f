-- Demand 3 of the code, the statement: two terminals run by the same calls, whose promises hold, are indistinguishable.
use Rattle.std.specs.Prelude.{◌≡◌, ℕ, true, false, List, [], ◌∷◌, length, take, drop, Result}
use Rattle.std.specs.Result.{result_unwrap_or}
use Rattle.rules.specs.declared.State.{State}
use Rattle.rules.specs.declared.StepResult.{StepResult}
use Rattle.rules.specs.declared.RunResult.{RunResult}
use Rattle.rules.specs.declared.Answer.{Answer}
use Rattle.rules.specs.Cell.{pick}
use Rattle.rules.specs.State.{number}
use Rattle.rules.specs.Step.{step_rule}
use Rattle.rules.specs.Calls.{run_rule, press_rule, Call, Step, Run, Press, Given, Played, after}
use Rattle.rules.specs.Theorems.Noninterference.{Alike, revealing, any_completed, Indistinguishable}
use Rattle.terminal.specs.Promise.{Stepped, RunDone, answer_of, KeySent}

-- what the caller of a step sees: the numbers of its result, the reply at the front of the room w, and the state
abbrev pub step_seen : StepResult → List ℕ → Given
step_seen r w = record {
  answer = number r.answer;
  counts = pick r.taken 1 0 ∷ r.replied
      ∷ [];
  reply = take r.replied w;
  rest = [];
  state = r.state;
}

-- of a run over the input l; `rest` hands back what was not taken
abbrev pub run_seen : RunResult → List ℕ → List ℕ → Given
run_seen r l w = record {
  answer = number r.answer;
  counts = r.taken ∷ r.replied ∷ r.refused ∷ [];
  reply = take r.replied w;
  rest = drop r.taken l;
  state = r.state;
}

-- of a key press, which has no state to give
abbrev pub press_seen : State → Result ℕ Answer → List ℕ → Given
press_seen s r w = record {
  answer = answer_of r;
  counts = result_unwrap_or r 0 ∷ [];
  reply = take (result_unwrap_or r 0) w;
  rest = [];
  state = s;
}

-- a call that was made on the page p and the state s, with the room w: its result r, the page p' and the room w' are as it promises
pub data Made (p : List ℕ) (s : State) : Call → Given → List ℕ → Type 0 where
  stepped : {b : ℕ} {w w' p' : List ℕ} {r : StepResult} → Stepped (step_rule p s b (length w)) r p' w w'
      → Made p s (Step b (length w)) (step_seen r w') p'
  ran : {l w w' p' : List ℕ} {r : RunResult} → RunDone (run_rule p s l (length w)) r l p' w w'
      → Made p s (Run l (length w)) (run_seen r l w') p'
  sent : {v : ℕ} {w w' : List ℕ} {r : Result ℕ Answer} → KeySent (press_rule p s v (length w)) r w w'
      → Made p s (Press v (length w)) (press_seen s r w') p

-- a list of calls, each made on the page and the state that the last one left
pub data Performed : List ℕ → State → List Call → Played → Type 0 where
  none : {p : List ℕ} {s : State} → Performed p s [] (record { given = []; state = s; page = p })
  next : {p p' : List ℕ} {s : State} {c : Call} {cs : List Call} {g : Given} {r : Played} → Made p s c g p' → Performed p' g.state cs r
      → Performed p s (c ∷ cs) (after g r)

-- demand 3, of terminals that run the code
abbrev pub CodeNoninterference : Type 0
CodeNoninterference =
    (p q : List ℕ) (s t : State) (calls : List Call) (a b : Played) → s.core.modes.protect ≡ true → revealing s.sending ≡ false → Alike p q s t
    → any_completed calls p s ≡ false
    → Performed p s calls a → Performed q t calls b → Indistinguishable p q a b
