-- When one of the six is completed (document 01): "A command is completed when, by these rules, its last byte is taken and answers 0; bytes
-- taken as another sequence's argument complete nothing. This is judged in the first terminal alone." The test that demand 3 is stated with is
-- true exactly then.
use Rattle.std.specs.Prelude.{◌≡◌, Bool, true, false, List, [], ◌∷◌, ◌++◌, map, ℕ, ◌-◌, length, replicate}
use Rattle.rules.specs.declared.State.{State}
use Rattle.rules.specs.declared.Pending.{Pending}
use Rattle.rules.specs.declared.Pending.TheVariants as Pending
use Rattle.rules.specs.Possible.{blank, good}
use Rattle.rules.specs.Step.{step_rule}
use Rattle.rules.specs.Calls.{Call, Step, Run, Press, run_rule, play}
use Rattle.rules.specs.Theorems.Noninterference.{Alike, revealing, any_completed, Indistinguishable}
use Rattle.rules.specs.Cases.Bench.{wy50}

-- the six, by their last bytes: ESC ', ESC *, ESC +, ESC , and ESC 6, ESC 7
pub data OneOfSix : ℕ → Type 0 where
  protect_off_lem : OneOfSix 0x27
  clear_nulls : OneOfSix 0x2a
  clear_spaces : OneOfSix 0x2b
  clear_protected : OneOfSix 0x2c
  send_row : OneOfSix 0x36
  send_segment : OneOfSix 0x37

-- a byte completes one of the six: it comes after a bare ESC, so that it is no other sequence's argument, is the last of one of the six, and
-- answers 0
pub record Completing (p : List ℕ) (s : State) (b room : ℕ) : Type 0 where
  pub bare : s.core.pending ≡ Pending.Escape
  pub six : OneOfSix b
  pub done : (step_rule p s b room).answer ≡ 0

-- some byte that a run takes does: a run over the bytes before it takes them all, and it comes where that run stands, with the room that is left
pub record CompletedInRun (p : List ℕ) (s : State) (bytes : List ℕ) (room : ℕ) : Type 0 where
  pub before : List ℕ
  pub byte : ℕ
  pub behind : List ℕ
  pub whole : bytes ≡ before ++ (byte ∷ behind)
  pub taken : (run_rule p s before room).rest ≡ []
  pub completing :
      Completing (run_rule p s before room).page (run_rule p s before room).state byte (room - length (run_rule p s before room).reply)

-- a call in which one is completed; no press is one
pub data CompletedIn : List ℕ → State → Call → Type 0 where
  in_step : (p : List ℕ) (s : State) (b room : ℕ) → Completing p s b room → CompletedIn p s (Step b room)
  in_run : (p : List ℕ) (s : State) (bytes : List ℕ) (room : ℕ) → CompletedInRun p s bytes room → CompletedIn p s (Run bytes room)

-- some call of the list, on the page and the state that the earlier ones leave
pub record Completed (calls : List Call) (p : List ℕ) (s : State) : Type 0 where
  pub earlier : List Call
  pub call : Call
  pub later : List Call
  pub whole : calls ≡ earlier ++ (call ∷ later)
  pub inside : CompletedIn (play earlier p s).page (play earlier p s).state call

-- the statement
pub record Characterised : Type 0 where
  pub counted_completed : (calls : List Call) (p : List ℕ) (s : State) → any_completed calls p s ≡ true → Completed calls p s
  pub completed_counted : (calls : List Call) (p : List ℕ) (s : State) → Completed calls p s → any_completed calls p s ≡ true

-- demand 3, said with this in place of the test
abbrev pub UnlessCompleted : Type 0
UnlessCompleted =
    (p q : List ℕ) (s t : State) (calls : List Call) → s.core.modes.protect ≡ true → revealing s.sending ≡ false → Alike p q s t
    → (Completed calls p s → ⊥)
    → Indistinguishable p q (play calls p s) (play calls q t)

-- what completes nothing
pub record NoneCompleted : Type 0 where
  pub empty : (p : List ℕ) (s : State) → any_completed [] p s ≡ false
  pub press : (p : List ℕ) (s : State) (v room : ℕ) → any_completed (Press v room ∷ []) p s ≡ false
  -- a call on a bad page or state
  pub bad : (p : List ℕ) (s : State) (c : Call) → good p s ≡ false → any_completed (c ∷ []) p s ≡ false
  -- a byte that does not answer 0, as ESC 6 and ESC 7 that answer 6
  pub refused : (p : List ℕ) (s : State) (b room : ℕ) → ((step_rule p s b room).answer ≡ 0 → ⊥) → any_completed (Step b room ∷ []) p s ≡ false
  -- a step or a run in which no byte after a bare ESC is one of the six
  pub step : (p : List ℕ) (s : State) (b room : ℕ) → (s.core.pending ≡ Pending.Escape → OneOfSix b → ⊥)
      → any_completed (Step b room ∷ []) p s ≡ false
  pub run : (p : List ℕ) (s : State) (bytes : List ℕ) (room : ℕ)
      → ((before : List ℕ) (b : ℕ) (behind : List ℕ) → bytes ≡ before ++ (b ∷ behind)
      → (run_rule p s before room).state.core.pending ≡ Pending.Escape → OneOfSix b → ⊥)
      → any_completed (Run bytes room ∷ []) p s ≡ false

-- whether a run over bytes from power-on completes one of the six; and whether the steps on ESC and a byte do
unfoldable pub completes_from : ℕ → List ℕ → Bool
completes_from room bytes = any_completed (Run bytes room ∷ []) blank wy50

unfoldable pub step_completes : ℕ → Bool
step_completes b = any_completed (Step 0x1b 1944 ∷ Step b 1944 ∷ []) blank wy50

-- each of the six is completed by its last byte, in a run and in steps; not as text, not without room, not as an argument
pub record SixCompleted : Type 0 where
  pub in_run : map (λ b. completes_from 1944 (0x1b ∷ b ∷ [])) (0x27 ∷ 0x2a ∷ 0x2b ∷ 0x2c ∷ 0x36 ∷ 0x37 ∷ []) ≡ replicate 6 true
  pub in_steps : map step_completes (0x27 ∷ 0x2a ∷ 0x2b ∷ 0x2c ∷ 0x36 ∷ 0x37 ∷ []) ≡ replicate 6 true
  pub behind : completes_from 1944 (0x41 ∷ 0x1b ∷ 0x3f ∷ 0x1b ∷ 0x36 ∷ 0x42 ∷ []) ≡ true
  pub as_text : completes_from 1944 (0x27 ∷ 0x2a ∷ 0x2b ∷ 0x2c ∷ 0x36 ∷ 0x37 ∷ []) ≡ false
  -- those that send, once they begin to
  pub begun : map (λ b. completes_from 1 (0x1b ∷ b ∷ [])) (0x36 ∷ 0x37 ∷ []) ≡ replicate 2 true
  -- behind a send that goes on
  pub behind_a_send : any_completed (Run (0x1b ∷ 0x20 ∷ []) 1 ∷ Run (0x1b ∷ 0x27 ∷ []) 2 ∷ []) blank wy50 ≡ true
  pub in_a_send : any_completed (Run (0x1b ∷ 0x20 ∷ []) 1 ∷ Run (0x1b ∷ 0x27 ∷ []) 1 ∷ []) blank wy50 ≡ false
  pub no_room : map (λ b. completes_from 0 (0x1b ∷ b ∷ [])) (0x36 ∷ 0x37 ∷ []) ≡ replicate 2 false
  pub as_argument : completes_from 1944 (0x1b ∷ 0x3d ∷ 0x27 ∷ 0x2a ∷ 0x1b ∷ 0x7a ∷ 0x40 ∷ 0x1b ∷ 0x2c ∷ 0x7f ∷ []) ≡ false
  pub others : map step_completes (0x26 ∷ 0x28 ∷ 0x34 ∷ 0x35 ∷ 0x3a ∷ 0x7e ∷ []) ≡ replicate 6 false
