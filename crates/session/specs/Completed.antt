-- When a session completes one of the six: the test that the statement is made with is true exactly then, so it excludes no more. And what no
-- session completes.
use Rattle.std.specs.Prelude.{◌≡◌, Bool, true, false, List, [], ◌∷◌, ◌++◌, ℕ, take}
use Rattle.rules.specs.declared.State.{State}
use Rattle.rules.specs.Possible.{good}
use Rattle.rules.specs.Calls.{Call, Press}
use Rattle.rules.specs.Next.{next_rule}
use Rattle.rules.specs.RowList.{agrees}
use Rattle.rules.specs.RowCalls.{suits, Session, RowCall, Bare, ListStep, ListRun, Next, Rebuild, handed}
use Rattle.rules.specs.Theorems.Noninterference.{AlikePages, revealing}
use Rattle.rules.specs.Theorems.Completed.{Completing, CompletedInRun, CompletedIn}
use Rattle.session.specs.Sessions.{SessionCall, Terminal, Save, Restore, Kept, start, session_play, session_completed, SessionIndistinguishable}

-- in one call of the terminal: by the byte of a step, or by a byte that a run or `next` takes; one with a list, if the list is taken
pub data CompletedBy (x : Session) : RowCall → Type 0 where
  bare : {c : Call} → CompletedIn x.page x.state c → CompletedBy x (Bare c)
  list_step : {b room : ℕ} → agrees x.rows x.page x.state ≡ true → Completing x.page x.state b room → CompletedBy x (ListStep b room)
  list_run : {bytes : List ℕ} {room : ℕ} → agrees x.rows x.page x.state ≡ true → CompletedInRun x.page x.state bytes room
      → CompletedBy x (ListRun bytes room)
  next : {with : Bool} {bytes : List ℕ} {room : ℕ} → suits (handed with x) x.page x.state ≡ true
      → CompletedInRun x.page x.state (take (next_rule x.page x.state bytes room).taken bytes) room → CompletedBy x (Next with bytes room)

-- in some call, on what the earlier ones leave
pub record Completed (calls : List SessionCall) (x : Kept) : Type 0 where
  pub earlier : List SessionCall
  pub call : RowCall
  pub later : List SessionCall
  pub whole : calls ≡ earlier ++ (Terminal call ∷ later)
  pub inside : CompletedBy (session_play earlier x).kept.terminal call

pub record Characterised : Type 0 where
  pub counted_completed : (calls : List SessionCall) (x : Kept) → session_completed calls x ≡ true → Completed calls x
  pub completed_counted : (calls : List SessionCall) (x : Kept) → Completed calls x → session_completed calls x ≡ true

-- the statement, said with this in place of the test
abbrev pub UnlessCompleted : Type 0
UnlessCompleted =
    (p q l store : List ℕ) (s : State) (calls : List SessionCall) → s.core.modes.protect ≡ true → revealing s.sending ≡ false → AlikePages p q
    → (Completed calls (start p l s store) → ⊥)
    → SessionIndistinguishable p q (session_play calls (start p l s store)) (session_play calls (start q l s store))

-- what completes nothing
pub record NoneCompleted : Type 0 where
  pub empty : (x : Kept) → session_completed [] x ≡ false
  pub save : (x : Kept) → session_completed (Save ∷ []) x ≡ false
  pub restore : (x : Kept) (n : ℕ) → session_completed (Restore n ∷ []) x ≡ false
  pub press : (x : Kept) (v room : ℕ) → session_completed (Terminal (Bare (Press v room)) ∷ []) x ≡ false
  pub rebuild : (x : Kept) → session_completed (Terminal Rebuild ∷ []) x ≡ false
  -- a step, a run and `next` that are refused for their list
  pub step_refused : (p l store : List ℕ) (s : State) (b room : ℕ) → agrees l p s ≡ false
      → session_completed (Terminal (ListStep b room) ∷ []) (start p l s store) ≡ false
  pub run_refused : (p l store : List ℕ) (s : State) (bytes : List ℕ) (room : ℕ) → agrees l p s ≡ false
      → session_completed (Terminal (ListRun bytes room) ∷ []) (start p l s store) ≡ false
  pub next_refused : (p l store : List ℕ) (s : State) (bytes : List ℕ) (room : ℕ) → suits l p s ≡ false
      → session_completed (Terminal (Next true bytes room) ∷ []) (start p l s store) ≡ false
  -- any calls from a page and a state that are not good, whatever list and store
  pub bad : (p l store : List ℕ) (s : State) (calls : List SessionCall) → good p s ≡ false → session_completed calls (start p l s store) ≡ false
  -- calls put together
  pub together : (calls more : List SessionCall) (x : Kept) → session_completed calls x ≡ false
      → session_completed more (session_play calls x).kept ≡ false
      → session_completed (calls ++ more) x ≡ false

-- "Starts as in demand 3", impossible ones too: from a page and a state that are not good any calls agree, whatever list and store
abbrev pub FromBad : Type 0
FromBad =
    (p q l store : List ℕ) (s : State) (calls : List SessionCall) → s.core.modes.protect ≡ true → revealing s.sending ≡ false → AlikePages p q
    → good p s ≡ false → SessionIndistinguishable p q (session_play calls (start p l s store)) (session_play calls (start q l s store))
