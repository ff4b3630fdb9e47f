-- What document 02, A5, says of the calls with a row list.
use Rattle.std.specs.Prelude.{◌≡◌, true, false, List, [], ℕ, length}
use Rattle.rules.specs.declared.State.{State}
use Rattle.rules.specs.Possible.{good}
use Rattle.rules.specs.Step.{unheard, step_rule}
use Rattle.rules.specs.Calls.{ended, run_rule, play}
use Rattle.rules.specs.Next.{next_rule}
use Rattle.rules.specs.RowList.{agrees}
use Rattle.rules.specs.RowCalls.{step_rows_rule, run_rows_rule, next_rows_rule, rows_after, rebuild_answer, rebuilt, Session, RowCall, row_play}
use Rattle.rules.specs.RowCalls.{bare_calls}

-- what the request says: with a list that agrees a step, a run and `next` give what they give without it, and the list agrees after it; so do the
-- page and the state after a list of calls
pub record EqualResults : Type 0 where
  pub step : (p l : List ℕ) (s : State) (b room : ℕ) → agrees l p s ≡ true → step_rows_rule p l s b room ≡ step_rule p s b room
  pub run : (p l : List ℕ) (s : State) (bytes : List ℕ) (room : ℕ) → agrees l p s ≡ true → run_rows_rule p l s bytes room ≡ run_rule p s bytes room
  pub next : (p l : List ℕ) (s : State) (bytes : List ℕ) (room : ℕ) → agrees l p s ≡ true → next_rows_rule p l s bytes room ≡ next_rule p s bytes room
  pub none : (p : List ℕ) (s : State) (bytes : List ℕ) (room : ℕ) → next_rows_rule p [] s bytes room ≡ next_rule p s bytes room
  pub agreed : (p l : List ℕ) (s : State) (p' : List ℕ) (s' : State) → agrees l p s ≡ true → agrees (rows_after p l s p' s') p' s' ≡ true
  pub page : (cs : List RowCall) (x : Session) → (row_play cs x).session.page ≡ (play (bare_calls cs x) x.page x.state).page
  pub state : (cs : List RowCall) (x : Session) → (row_play cs x).session.state ≡ (play (bare_calls cs x) x.page x.state).state

-- one that disagrees answers 7, and nothing has changed
pub record Disagreeing : Type 0 where
  pub step : (p l : List ℕ) (s : State) (b room : ℕ) → agrees l p s ≡ false
      → step_rows_rule p l s b room ≡ unheard 7 p s
  pub run : (p l : List ℕ) (s : State) (bytes : List ℕ) (room : ℕ) → agrees l p s ≡ false → run_rows_rule p l s bytes room ≡ ended p s 7 bytes
  pub next : (p l : List ℕ) (s : State) (bytes : List ℕ) (room : ℕ) → agrees l p s ≡ false → (length l ≡ 0 → ⊥)
      → next_rows_rule p l s bytes room ≡ ended p s 7 bytes
  pub kept : (p l : List ℕ) (s : State) (p' : List ℕ) (s' : State) → agrees l p s ≡ false → rows_after p l s p' s' ≡ l
  -- such are all lists that are not 48 long
  pub wrong_length : (p l : List ℕ) (s : State) → (length l ≡ 48 → ⊥) → agrees l p s ≡ false

-- the rebuild answers 0 exactly if its list is 48 long and page and state are good, and then the list agrees; else it is left
pub record Rebuilding : Type 0 where
  pub done : (p l : List ℕ) (s : State) → length l ≡ 48 → good p s ≡ true → (rebuild_answer p l s ≡ 0) × (agrees (rebuilt p l s) p s ≡ true)
  pub bad_length : (p l : List ℕ) (s : State) → (length l ≡ 48 → ⊥) → (rebuild_answer p l s ≡ 7) × (rebuilt p l s ≡ l)
  pub bad : (p l : List ℕ) (s : State) → good p s ≡ false → (rebuild_answer p l s ≡ 7) × (rebuilt p l s ≡ l)
