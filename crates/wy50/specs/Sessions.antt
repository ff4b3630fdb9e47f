-- Whole sessions of the exported calls (document 02, A14), the statement: two C callers with the same numbers, list and store, right or wrong, make
-- the same calls, or hand in the same stream by the same cuts, and the calls were made as they promise.
use Rattle.std.specs.Prelude.{◌≡◌, Bool, List, [], ◌∷◌, ◌⊎◌, ℕ, get_or, drop}
use Rattle.rules.specs.Calls.{Step, Run}
use Rattle.rules.specs.RowCalls.{RowCall, Bare, ListStep, ListRun, Next}
use Rattle.rules.specs.Theorems.Noninterference.{AlikePages, KeptPages}
use Rattle.session.specs.Sessions.{SessionCall, Terminal, Save, Restore, Act, call_of, host_bytes, left_of}
use Rattle.wy50.specs.declared.raw.RawState.{RawState}
use Rattle.wy50.specs.declared.raw.RawSave.{RawSave}
use Rattle.wy50.specs.declared.raw.RawRestore.{RawRestore}
use Rattle.wy50.specs.Promise.{raw_step, raw_run}
use Rattle.wy50.specs.Rows.{raw_step_rows, raw_run_rows, raw_next}
use Rattle.wy50.specs.Noninterference.{RawGiven, RawCompleted, Concealing}
use Rattle.wy50.specs.RowNoninterference.{RawSession, left, handed, raw_row_call, bare_call, RowMade}
use Rattle.wy50.specs.Saved.{raw_save, save_given, raw_restore, state_after}

-- what a C caller keeps from call to call
pub record RawKept : Type 0 where
  pub terminal : RawSession
  pub store : List ℕ

abbrev pub raw_start : List ℕ → List ℕ → RawState → List ℕ → RawKept
raw_start p l x store = record { terminal = record { page = p; rows = l; state = x }; store = store }

-- what C is told: by a call of the terminal; by a save, its answer and the number saved; by a restore, its answer
pub data RawTold : Type 0 where
  Heard : RawGiven → RawTold
  Saved : RawSave → RawTold
  Restored : ℕ → RawTold

pub record RawSessionCalled : Type 0 where
  pub told : RawTold
  pub kept : RawKept

unfoldable pub raw_session_rule : RawKept → SessionCall → RawSessionCalled
raw_session_rule x (Terminal c) =
    let r = raw_row_call x.terminal c in record { told = Heard r.called.given; kept = record { terminal = left r; store = x.store } }
raw_session_rule x Save =
    let r = raw_save x.terminal.state x.store in
    record { told = Saved (save_given r); kept = record { terminal = x.terminal; store = r.store } }
raw_session_rule x (Restore n) =
    let r = raw_restore x.terminal.state x.store n in
    record {
      told = Restored r.answer;
      kept = raw_start x.terminal.page x.terminal.rows (state_after x.terminal.state r) x.store;
    }

-- one of the six is completed somewhere in the session, judged in this terminal: by what a call of the terminal comes to
pub data RawSessionCompleted : List SessionCall → RawKept → Type 0 where
  first : {c : RowCall} {cs : List SessionCall} {x : RawKept} → RawCompleted (bare_call x.terminal c) x.terminal.page x.terminal.state
      → RawSessionCompleted (Terminal c ∷ cs) x
  later : {c : SessionCall} {cs : List SessionCall} {x : RawKept} → RawSessionCompleted cs (raw_session_rule x c).kept
      → RawSessionCompleted (c ∷ cs) x

-- a call that was made on x: what C was told, and what is left, are as it promises
pub data RawSessionMade (x : RawKept) : SessionCall → RawSessionCalled → Type 0 where
  terminal : {c : RowCall} {g : RawGiven} {p' l' : List ℕ} → RowMade x.terminal c g p' l'
      → RawSessionMade x (Terminal c) (record { told = Heard g; kept = raw_start p' l' g.state x.store })
  saved : {r : RawSave} {store' : List ℕ} → r ≡ save_given (raw_save x.terminal.state x.store)
      → store' ≡ (raw_save x.terminal.state x.store).store
      → RawSessionMade x Save (record { told = Saved r; kept = record { terminal = x.terminal; store = store' } })
  restored : {n : ℕ} {r : RawRestore} → r.answer ≡ (raw_restore x.terminal.state x.store n).answer
      → r.state ≡ state_after x.terminal.state (raw_restore x.terminal.state x.store n)
      → RawSessionMade x (Restore n)
      (record { told = Restored r.answer; kept = raw_start x.terminal.page x.terminal.rows r.state x.store })

-- everything given back: what C was told, and the numbers, the list and the store after the call
pub record RawSessionGiven : Type 0 where
  pub told : RawTold
  pub state : RawState
  pub rows : List ℕ
  pub store : List ℕ

abbrev pub raw_given_by : RawSessionCalled → RawSessionGiven
raw_given_by r = record { told = r.told; state = r.kept.terminal.state; rows = r.kept.terminal.rows; store = r.kept.store }

-- calls, each made on what the last one left: what they gave, and what is kept at the end
pub data RawSessionPerformed : RawKept → List SessionCall → List RawSessionGiven → RawKept → Type 0 where
  none : {x : RawKept} → RawSessionPerformed x [] [] x
  next : {x y : RawKept} {c : SessionCall} {cs : List SessionCall} {r : RawSessionCalled} {gs : List RawSessionGiven} → RawSessionMade x c r
      → RawSessionPerformed r.kept cs gs y → RawSessionPerformed x (c ∷ cs) (raw_given_by r ∷ gs) y

pub record RawSessionIndistinguishable (p q : List ℕ) (gs hs : List RawSessionGiven) (y z : RawKept) : Type 0 where
  pub given : gs ≡ hs
  pub state : y.terminal.state ≡ z.terminal.state
  pub rows : y.terminal.rows ≡ z.terminal.rows
  pub store : y.store ≡ z.store
  pub pages : KeptPages p q y.terminal.page z.terminal.page

abbrev pub RawSessionNoninterference : Type 0
RawSessionNoninterference =
    (p q l store : List ℕ) (x : RawState) (calls : List SessionCall) (gs hs : List RawSessionGiven) (y z : RawKept) → x.modes.protect ≡ 1
    → Concealing x.sending → AlikePages p q → (RawSessionCompleted calls (raw_start p l x store) → ⊥)
    → RawSessionPerformed (raw_start p l x store) calls gs y → RawSessionPerformed (raw_start q l x store) calls hs z
    → RawSessionIndistinguishable p q gs hs y z

-- ---- over one host stream

abbrev pub raw_taken : RawTold → ℕ
raw_taken (Heard g) = get_or g.counts 0 0
raw_taken (Saved r) = 0
raw_taken (Restored n) = 0

abbrev pub raw_handed_back : SessionCall → RawTold → List ℕ
raw_handed_back c t = drop (raw_taken t) (host_bytes c)

unfoldable pub raw_calls_of : List Act → List ℕ → RawKept → List SessionCall
raw_calls_of [] stream x = []
raw_calls_of (a ∷ acts) stream x =
    let c = call_of a stream in let r = raw_session_rule x c in c ∷ raw_calls_of acts (left_of stream c (raw_handed_back c r.told)) r.kept

-- acts over a stream: what their calls gave, what is kept at the end, and what no call has taken
pub data RawStreamPerformed : RawKept → List ℕ → List Act → List RawSessionGiven → RawKept → List ℕ → Type 0 where
  none : {x : RawKept} {stream : List ℕ} → RawStreamPerformed x stream [] [] x stream
  next : {x y : RawKept} {stream end : List ℕ} {a : Act} {acts : List Act} {r : RawSessionCalled} {gs : List RawSessionGiven}
      → RawSessionMade x (call_of a stream) r
      → RawStreamPerformed r.kept (left_of stream (call_of a stream) (raw_handed_back (call_of a stream) r.told)) acts gs y end
      → RawStreamPerformed x stream (a ∷ acts) (raw_given_by r ∷ gs) y end

abbrev pub RawStreamNoninterference : Type 0
RawStreamNoninterference =
    (p q l store stream : List ℕ) (x : RawState) (acts : List Act) (gs hs : List RawSessionGiven) (y z : RawKept) (u v : List ℕ)
    → x.modes.protect ≡ 1
    → Concealing x.sending → AlikePages p q → (RawSessionCompleted (raw_calls_of acts stream (raw_start p l x store)) (raw_start p l x store) → ⊥)
    → RawStreamPerformed (raw_start p l x store) stream acts gs y u → RawStreamPerformed (raw_start q l x store) stream acts hs z v
    → RawSessionIndistinguishable p q gs hs y z × (u ≡ v)

-- when one of the six is completed: never in no calls; in a call of the terminal, or in a later call
pub record RawSessionCharacterised : Type 0 where
  pub none : (x : RawKept) → RawSessionCompleted [] x → ⊥
  pub terminal : (c : RowCall) (cs : List SessionCall) (x : RawKept) → RawSessionCompleted (Terminal c ∷ cs) x
      → RawCompleted (bare_call x.terminal c) x.terminal.page x.terminal.state
      ⊎ RawSessionCompleted cs (raw_session_rule x (Terminal c)).kept
  pub save : (cs : List SessionCall) (x : RawKept) → RawSessionCompleted (Save ∷ cs) x → RawSessionCompleted cs (raw_session_rule x Save).kept
  pub restore : (n : ℕ) (cs : List SessionCall) (x : RawKept) → RawSessionCompleted (Restore n ∷ cs) x
      → RawSessionCompleted cs (raw_session_rule x (Restore n)).kept

-- what C is given: what each exported call promises, and the numbers, the list and the store after it
pub record RawGivenBack (p l : List ℕ) (x : RawState) (store : List ℕ) : Type 0 where
  pub terminal : (c : RowCall)
      → let r = raw_row_call (record { page = p; rows = l; state = x }) c in
      let k = raw_session_rule (raw_start p l x store) (Terminal c) in
      (raw_given_by k ≡ record { told = Heard r.called.given; state = r.called.given.state; rows = r.rows; store = store })
      × (k.kept ≡ raw_start r.called.page r.rows r.called.given.state store)
  pub save : let r = raw_save x store in
      let k = raw_session_rule (raw_start p l x store) Save in
      (raw_given_by k ≡ record { told = Saved (save_given r); state = x; rows = l; store = r.store }) × (k.kept ≡ raw_start p l x r.store)
  pub restore : (n : ℕ)
      → let r = raw_restore x store n in
      let k = raw_session_rule (raw_start p l x store) (Restore n) in
      (raw_given_by k ≡ record { told = Restored r.answer; state = state_after x r; rows = l; store = store })
      × (k.kept ≡ raw_start p l (state_after x r) store)

-- what is handed back: of a step its byte, if `taken` is 0; of a run and of `next` the rest
pub record RawHandedBack (x : RawSession) (store : List ℕ) : Type 0 where
  pub step : (b room : ℕ) → let c = Terminal (Bare (Step b room)) in
      raw_handed_back c (raw_session_rule (record { terminal = x; store = store }) c).told ≡ drop (raw_step x.page x.state b room).taken (b ∷ [])
  pub run : (bytes : List ℕ) (room : ℕ) → let c = Terminal (Bare (Run bytes room)) in
      raw_handed_back c (raw_session_rule (record { terminal = x; store = store }) c).told ≡ (raw_run x.page x.state bytes room).rest
  pub list_step : (b room : ℕ) → let c = Terminal (ListStep b room) in
      raw_handed_back c (raw_session_rule (record { terminal = x; store = store }) c).told
      ≡ drop (raw_step_rows x.page x.rows x.state b room).taken (b ∷ [])
  pub list_run : (bytes : List ℕ) (room : ℕ) → let c = Terminal (ListRun bytes room) in
      raw_handed_back c (raw_session_rule (record { terminal = x; store = store }) c).told ≡ (raw_run_rows x.page x.rows x.state bytes room).rest
  pub next : (with : Bool) (bytes : List ℕ) (room : ℕ) → let c = Terminal (Next with bytes room) in
      raw_handed_back c (raw_session_rule (record { terminal = x; store = store }) c).told
      ≡ (raw_next x.page (handed with x) x.state bytes room).rest
