-- The statement of the code: two callers of `terminal` and `saved` whose calls were made as they promise, over lists of calls and over a stream.
use Rattle.std.specs.Prelude.{◌≡◌, true, false, List, [], ◌∷◌, ℕ, Result}
use Rattle.std.specs.Result.{result_unwrap_or}
use Rattle.rules.specs.declared.State.{State}
use Rattle.rules.specs.Calls.{Given}
use Rattle.rules.specs.RowCalls.{RowCall}
use Rattle.rules.specs.Theorems.Noninterference.{AlikePages, revealing}
use Rattle.terminal.specs.RowNoninterference.{RowMade}
use Rattle.saved.specs.declared.Refusal.{Refusal}
use Rattle.saved.specs.Calls.{save_number, saved_as, save_rule, SaveGives, restore_number, restore_rule, RestoreGives}
use Rattle.session.specs.Sessions.{SessionCall, Terminal, Save, Restore, Kept, start, Heard, Saved, Restored, SessionCalled, SessionPlayed}
use Rattle.session.specs.Sessions.{session_after, session_completed, SessionIndistinguishable, Act, call_of, handed_back, left_of, StreamPlayed}
use Rattle.session.specs.Sessions.{calls_of, StreamIndistinguishable}

-- a call that was made on x: what it told and left is as it promises
pub data SessionMade (x : Kept) : SessionCall → SessionCalled → Type 0 where
  terminal : {c : RowCall} {g : Given} {p' l' : List ℕ} → RowMade x.terminal c g p' l'
      → SessionMade x (Terminal c) (record { told = Heard g; kept = start p' l' g.state x.store })
  saved : {a : Result ℕ Refusal} {store' : List ℕ} → SaveGives (save_rule x.terminal.state x.store) a store'
      → SessionMade x Save (record { told = Saved (save_number a) (saved_as a); kept = record { terminal = x.terminal; store = store' } })
  restored : {n : ℕ} {a : Result State Refusal} → RestoreGives x.terminal.state (restore_rule x.terminal.state x.store n) a
      → SessionMade x (Restore n) (record {
        told = Restored (restore_number a);
        kept = start x.terminal.page x.terminal.rows (result_unwrap_or a x.terminal.state) x.store;
      })

-- calls, each made on what the last one left
pub data SessionPerformed : Kept → List SessionCall → SessionPlayed → Type 0 where
  none : {x : Kept} → SessionPerformed x [] (record { given = []; kept = x })
  next : {x : Kept} {c : SessionCall} {cs : List SessionCall} {r : SessionCalled} {t : SessionPlayed} → SessionMade x c r
      → SessionPerformed r.kept cs t
      → SessionPerformed x (c ∷ cs) (session_after r t)

-- acts over a stream, what is left of it by what each call told
pub data StreamPerformed : Kept → List ℕ → List Act → StreamPlayed → Type 0 where
  none : {x : Kept} {stream : List ℕ} → StreamPerformed x stream [] (record { session = record { given = []; kept = x }; left = stream })
  next : {x : Kept} {stream : List ℕ} {a : Act} {acts : List Act} {r : SessionCalled} {t : StreamPlayed} → SessionMade x (call_of a stream) r
      → StreamPerformed r.kept (left_of stream (call_of a stream) (handed_back (call_of a stream) r.told)) acts t
      → StreamPerformed x stream (a ∷ acts) (record { session = session_after r t.session; left = t.left })

abbrev pub CodeSessionNoninterference : Type 0
CodeSessionNoninterference =
    (p q l store : List ℕ) (s : State) (calls : List SessionCall) (a b : SessionPlayed) → s.core.modes.protect ≡ true
    → revealing s.sending ≡ false
    → AlikePages p q → session_completed calls (start p l s store) ≡ false
    → SessionPerformed (start p l s store) calls a → SessionPerformed (start q l s store) calls b → SessionIndistinguishable p q a b

abbrev pub CodeStreamNoninterference : Type 0
CodeStreamNoninterference =
    (p q l store stream : List ℕ) (s : State) (acts : List Act) (a b : StreamPlayed) → s.core.modes.protect ≡ true → revealing s.sending ≡ false
    → AlikePages p q → session_completed (calls_of acts stream (start p l s store)) (start p l s store) ≡ false
    → StreamPerformed (start p l s store) stream acts a → StreamPerformed (start q l s store) stream acts b → StreamIndistinguishable p q a b
