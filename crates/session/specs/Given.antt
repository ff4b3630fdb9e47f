-- What a session's calls give back and leave, one by one; what they hand back; and that the sessions of the terminal's calls alone are those of
-- demand 3 with row lists.
use Rattle.std.specs.Prelude.{◌≡◌, Bool, List, [], ◌∷◌, ◌++◌, ℕ}
use Rattle.rules.specs.declared.State.{State}
use Rattle.rules.specs.Cell.{pick}
use Rattle.rules.specs.Step.{step_rule}
use Rattle.rules.specs.Calls.{Step, Run, Press, run_rule}
use Rattle.rules.specs.RowCalls.{step_rows_rule, run_rows_rule, next_rows_rule, Session, RowCall, Bare, ListStep, ListRun, Next, Rebuild, handed}
use Rattle.rules.specs.RowCalls.{row_call_rule}
use Rattle.rules.specs.Theorems.RowNoninterference.{RowNoninterference}
use Rattle.saved.specs.Calls.{save_rule, restore_rule}
use Rattle.session.specs.Sessions.{SessionCall, Terminal, Save, Restore, Kept, start, Heard, Saved, Restored, session_rule, session_play}
use Rattle.session.specs.Sessions.{handed_back, SessionNoninterference}

-- each call's answer is the one that its rules give, and with it stand the state, the list and the store after it
pub record GivenBack (p l : List ℕ) (s : State) (store : List ℕ) : Type 0 where
  pub terminal : (c : RowCall)
      → let r = row_call_rule (record { page = p; rows = l; state = s }) c in
      session_play (Terminal c ∷ []) (start p l s store) ≡ record {
        given = record { told = Heard r.called.given; state = r.called.given.state; rows = r.rows; store = store } ∷ [];
        kept = start r.called.page r.rows r.called.given.state store;
      }
  pub save : let r = save_rule s store in
      session_play (Save ∷ []) (start p l s store) ≡ record {
        given = record { told = Saved r.answer r.number; state = s; rows = l; store = r.store } ∷ [];
        kept = start p l s r.store;
      }
  pub restore : (n : ℕ)
      → let r = restore_rule s store n in
      session_play (Restore n ∷ []) (start p l s store) ≡ record {
        given = record { told = Restored r.answer; state = r.state; rows = l; store = store } ∷ [];
        kept = start p l r.state store;
      }

-- each call is made on what the last one left
pub record OneByOne (calls more : List SessionCall) (x : Kept) : Type 0 where
  pub given : (session_play (calls ++ more) x).given ≡ (session_play calls x).given ++ (session_play more (session_play calls x).kept).given
  pub kept : (session_play (calls ++ more) x).kept ≡ (session_play more (session_play calls x).kept).kept

-- what a call hands back: of a step its byte, unless it says that it took it; of a run and of `next` the rest that it gives; else nothing
pub record HandedBack (x : Session) (store : List ℕ) : Type 0 where
  pub step : (b room : ℕ) → let c = Terminal (Bare (Step b room)) in
      handed_back c (session_rule (record { terminal = x; store = store }) c).told ≡ pick (step_rule x.page x.state b room).taken [] (b ∷ [])
  pub run : (bytes : List ℕ) (room : ℕ) → let c = Terminal (Bare (Run bytes room)) in
      handed_back c (session_rule (record { terminal = x; store = store }) c).told ≡ (run_rule x.page x.state bytes room).rest
  pub list_step : (b room : ℕ) → let c = Terminal (ListStep b room) in
      handed_back c (session_rule (record { terminal = x; store = store }) c).told
      ≡ pick (step_rows_rule x.page x.rows x.state b room).taken [] (b ∷ [])
  pub list_run : (bytes : List ℕ) (room : ℕ) → let c = Terminal (ListRun bytes room) in
      handed_back c (session_rule (record { terminal = x; store = store }) c).told ≡ (run_rows_rule x.page x.rows x.state bytes room).rest
  pub next : (with : Bool) (bytes : List ℕ) (room : ℕ) → let c = Terminal (Next with bytes room) in
      handed_back c (session_rule (record { terminal = x; store = store }) c).told ≡ (next_rows_rule x.page (handed with x) x.state bytes room).rest
  pub press : (v room : ℕ)
      → let c = Terminal (Bare (Press v room)) in handed_back c (session_rule (record { terminal = x; store = store }) c).told ≡ []
  pub rebuild : let c = Terminal Rebuild in handed_back c (session_rule (record { terminal = x; store = store }) c).told ≡ []
  pub save : handed_back Save (session_rule (record { terminal = x; store = store }) Save).told ≡ []
  pub restore : (n : ℕ) → handed_back (Restore n) (session_rule (record { terminal = x; store = store }) (Restore n)).told ≡ []

-- demand 3 with row lists, and so demand 3, is the statement over the terminal's calls alone: it excludes and asks no more, and gives no less
abbrev pub CarriesNoninterference : Type 0
CarriesNoninterference = SessionNoninterference → RowNoninterference
