-- Demand 3 of the exported calls, the statement: two terminals whose states are the same numbers, numbers that name no state too, run by the
-- same calls, whose promises hold, are indistinguishable.
use Rattle.std.specs.Prelude.{◌≡◌, true, List, [], ◌∷◌, ◌⊎◌, ℕ, length, take, drop}
use Rattle.rules.specs.Calls.{Call, Step, Run, Press, Pressed}
use Rattle.rules.specs.Theorems.Noninterference.{AlikePages, KeptPages}
use Rattle.rules.specs.Theorems.Completed.{CompletedIn}
use Rattle.wy50.specs.declared.raw.RawSending.{RawSending}
use Rattle.wy50.specs.declared.raw.RawState.{RawState}
use Rattle.wy50.specs.declared.raw.RawStep.{RawStep}
use Rattle.wy50.specs.declared.raw.RawRun.{RawRun}
use Rattle.wy50.specs.declared.raw.RawPress.{RawPress}
use Rattle.wy50.specs.Raw.{unpacked, named}
use Rattle.wy50.specs.Promise.{RawOutcome, RawRan, raw_step, raw_run, raw_press, Stepped, RunDone, Sent}

-- what a call gives back, with the state's numbers after it; counts as the rules have them
pub record RawGiven : Type 0 where
  pub answer : ℕ
  pub counts : List ℕ
  pub reply : List ℕ
  pub rest : List ℕ
  pub state : RawState

pub record RawCalled : Type 0 where
  pub given : RawGiven
  pub page : List ℕ

abbrev pub of_raw_step : RawOutcome → RawCalled
of_raw_step o = record {
  given = record { answer = o.answer; counts = o.taken ∷ length o.reply ∷ []; reply = o.reply; rest = []; state = o.state };
  page = o.page;
}

abbrev pub of_raw_run : RawRan → RawCalled
of_raw_run o = record {
  given = record { answer = o.answer; counts = o.taken ∷ length o.reply ∷ o.refused ∷ []; reply = o.reply; rest = o.rest; state = o.state };
  page = o.page;
}

abbrev pub of_raw_press : List ℕ → RawState → Pressed → RawCalled
of_raw_press p x o = record { given = record { answer = o.answer; counts = length o.reply ∷ []; reply = o.reply; rest = []; state = x }; page = p }

unfoldable pub raw_call : List ℕ → RawState → Call → RawCalled
raw_call p x (Step b room) = of_raw_step (raw_step p x b room)
raw_call p x (Run bytes room) = of_raw_run (raw_run p x bytes room)
raw_call p x (Press v room) = of_raw_press p x (raw_press p x v room)

-- one of the six is completed somewhere in the list, judged in this terminal: by a call on numbers that name a state, as the rules say of
-- that state
pub data RawCompleted : List Call → List ℕ → RawState → Type 0 where
  first : {c : Call} {cs : List Call} {p : List ℕ} {x : RawState} → named x ≡ true → CompletedIn p (unpacked x) c → RawCompleted (c ∷ cs) p x
  later : {c : Call} {cs : List Call} {p : List ℕ} {x : RawState} → RawCompleted cs (raw_call p x c).page (raw_call p x c).given.state
      → RawCompleted (c ∷ cs) p x

-- what C sees of a call: the numbers of its result, and the reply at the front of the room w
abbrev pub step_seen : RawStep → List ℕ → RawGiven
step_seen r w = record { answer = r.answer; counts = r.taken ∷ r.replied ∷ []; reply = take r.replied w; rest = []; state = r.state }

-- of a run over the input l, which goes on at `taken`
abbrev pub run_seen : RawRun → List ℕ → List ℕ → RawGiven
run_seen r l w = record {
  answer = r.answer;
  counts = r.taken ∷ r.replied ∷ r.refused ∷ [];
  reply = take r.replied w;
  rest = drop r.taken l;
  state = r.state;
}

-- of a key press, which has no state to give
abbrev pub press_seen : RawState → RawPress → List ℕ → RawGiven
press_seen x r w = record { answer = r.answer; counts = r.replied ∷ []; reply = take r.replied w; rest = []; state = x }

-- a call that was made on the page p and the numbers x, with the room w: its result r, the page p' and the room w' are as it promises
pub data Made (p : List ℕ) (x : RawState) : Call → RawGiven → List ℕ → Type 0 where
  stepped : {b : ℕ} {w w' p' : List ℕ} {r : RawStep} → Stepped (raw_step p x b (length w)) r p' w w'
      → Made p x (Step b (length w)) (step_seen r w') p'
  ran : {l w w' p' : List ℕ} {r : RawRun} → RunDone (raw_run p x l (length w)) r l p' w w'
      → Made p x (Run l (length w)) (run_seen r l w') p'
  sent : {v : ℕ} {w w' : List ℕ} {r : RawPress} → Sent (raw_press p x v (length w)) r w w'
      → Made p x (Press v (length w)) (press_seen x r w') p

-- a list of calls, each made on the page and the numbers that the last one left: what they gave, the numbers and the page at the end
pub data Performed : List ℕ → RawState → List Call → List RawGiven → RawState → List ℕ → Type 0 where
  none : {p : List ℕ} {x : RawState} → Performed p x [] [] x p
  next : {p p' p'' : List ℕ} {x x'' : RawState} {c : Call} {cs : List Call} {g : RawGiven} {gs : List RawGiven} → Made p x c g p'
      → Performed p' g.state cs gs x'' p'' → Performed p x (c ∷ cs) (g ∷ gs) x'' p''

-- after the list: what was given, the numbers and the page of each terminal
pub record RawIndistinguishable (p q : List ℕ) (gs hs : List RawGiven) (x y : RawState) (a b : List ℕ) : Type 0 where
  pub given : gs ≡ hs
  pub state : x ≡ y
  pub pages : KeptPages p q a b

-- no ESC 6 or ESC 7 send, by its command
pub record Concealing (y : RawSending) : Type 0 where
  pub row : y.command ≡ 0x36 → ⊥
  pub segment : y.command ≡ 0x37 → ⊥

-- demand 3, of two terminals that C runs; protect mode is on where its number is 1
abbrev pub RawNoninterference : Type 0
RawNoninterference =
    (p q : List ℕ) (x : RawState) (calls : List Call) (gs hs : List RawGiven) (y z : RawState) (a b : List ℕ) → x.modes.protect ≡ 1
    → Concealing x.sending
    → AlikePages p q → (RawCompleted calls p x → ⊥) → Performed p x calls gs y a → Performed q x calls hs z b → RawIndistinguishable p q gs hs y z a b

-- when one of the six is completed: never in no calls, and in calls by the first or by a later one
pub record RawCharacterised : Type 0 where
  pub none : (p : List ℕ) (x : RawState) → RawCompleted [] p x → ⊥
  pub some : (c : Call) (cs : List Call) (p : List ℕ) (x : RawState) → RawCompleted (c ∷ cs) p x
      → ((named x ≡ true) × CompletedIn p (unpacked x) c) ⊎ RawCompleted cs (raw_call p x c).page (raw_call p x c).given.state
