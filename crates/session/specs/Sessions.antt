-- Whole sessions (document 02, A14), the statement: "Carry demand 3 to a session", first over lists of calls, then over one host stream. The
-- request's words stand between quotes.
use Rattle.std.specs.Prelude.{◌≡◌, Bool, true, false, List, [], ◌∷◌, ◌++◌, ℕ, length, get_or, take, drop}
use Rattle.rules.specs.declared.State.{State}
use Rattle.rules.specs.Cell.{pick, either}
use Rattle.rules.specs.Calls.{Step, Run, Press, Given}
use Rattle.rules.specs.RowCalls.{Session, RowCall, Bare, ListStep, ListRun, Next, Rebuild, left, row_call_rule, bare_call}
use Rattle.rules.specs.Theorems.Noninterference.{AlikePages, KeptPages, revealing, any_completed}
use Rattle.saved.specs.Calls.{save_rule, restore_rule}

-- a call of the terminal, that is a step, a run, `next`, a key press, a form with the row list or the rebuild, with a room of any length ("narrow
-- replies"); or "saving and restoring set-ups". "Conversion stays outside", and so do power-on, repainting and mending
pub data SessionCall : Type 0 where
  Terminal : RowCall → SessionCall
  Save : SessionCall
  Restore : ℕ → SessionCall

-- "each call taking what the last one left": the terminal's page, list and state, and the store
pub record Kept : Type 0 where
  pub terminal : Session
  pub store : List ℕ

abbrev pub start : List ℕ → List ℕ → State → List ℕ → Kept
start p l s store = record { terminal = record { page = p; rows = l; state = s }; store = store }

-- what a call tells: of the terminal the answer, the counts, with whether a byte was taken, the reply and the rest; of a save the answer, with
-- the number saved; of a restore the answer
pub data Told : Type 0 where
  Heard : Given → Told
  Saved : ℕ → ℕ → Told
  Restored : ℕ → Told

pub record SessionCalled : Type 0 where
  pub told : Told
  pub kept : Kept

-- a save changes the store alone, and a restore the state
unfoldable pub session_rule : Kept → SessionCall → SessionCalled
session_rule x (Terminal c) =
    let r = row_call_rule x.terminal c in record { told = Heard r.called.given; kept = record { terminal = left r; store = x.store } }
session_rule x Save =
    let r = save_rule x.terminal.state x.store in
    record { told = Saved r.answer r.number; kept = record { terminal = x.terminal; store = r.store } }
session_rule x (Restore n) =
    let r = restore_rule x.terminal.state x.store n in
    record { told = Restored r.answer; kept = start x.terminal.page x.terminal.rows r.state x.store }

-- "everything given back": what a call tells, and the state, the list and the store after it
pub record SessionGiven : Type 0 where
  pub told : Told
  pub state : State
  pub rows : List ℕ
  pub store : List ℕ

abbrev pub given_by : SessionCalled → SessionGiven
given_by r = record { told = r.told; state = r.kept.terminal.state; rows = r.kept.terminal.rows; store = r.kept.store }

pub record SessionPlayed : Type 0 where
  pub given : List SessionGiven
  pub kept : Kept

unfoldable pub session_after : SessionCalled → SessionPlayed → SessionPlayed
session_after c r = record { given = given_by c ∷ r.given; kept = r.kept }

unfoldable pub session_play : List SessionCall → Kept → SessionPlayed
session_play [] x = record { given = []; kept = x }
session_play (c ∷ cs) x = let r = session_rule x c in session_after r (session_play cs r.kept)

-- "The six excluded commands stand": whether a call completes one, judged in this terminal. A save and a restore complete none
unfoldable pub call_completed : Kept → SessionCall → Bool
call_completed x (Terminal c) = any_completed (bare_call x.terminal c) x.terminal.page x.terminal.state
call_completed x Save = false
call_completed x (Restore n) = false

unfoldable pub session_completed : List SessionCall → Kept → Bool
session_completed [] x = false
session_completed (c ∷ cs) x = either (call_completed x c) (session_completed cs (session_rule x c).kept)

-- "everything given back agrees, pages as in demand 3": after every call, and at the end; p and q are the pages at the start
pub record SessionIndistinguishable (p q : List ℕ) (a b : SessionPlayed) : Type 0 where
  pub given : a.given ≡ b.given
  pub state : a.kept.terminal.state ≡ b.kept.terminal.state
  pub rows : a.kept.terminal.rows ≡ b.kept.terminal.rows
  pub store : a.kept.store ≡ b.kept.store
  pub pages : KeptPages p q a.kept.terminal.page b.kept.terminal.page

-- "With equal stores at the start, the same calls, cuts and rooms in both runs": starts as in demand 3, of "both personalities, either width", with
-- protect mode on and not inside an ESC 6 or ESC 7 send; any state, list and store, the same in both; any calls in which the first terminal
-- completes none of the six
abbrev pub SessionNoninterference : Type 0
SessionNoninterference =
    (p q l store : List ℕ) (s : State) (calls : List SessionCall) → s.core.modes.protect ≡ true → revealing s.sending ≡ false → AlikePages p q
    → session_completed calls (start p l s store) ≡ false
    → SessionIndistinguishable p q (session_play calls (start p l s store)) (session_play calls (start q l s store))

-- ---- over one host stream

-- "host bytes cut anywhere, key presses between them": the first of the bytes that no call has taken are handed in, one to a step, up to n to a
-- run or to `next`, with the list or without, and with a room; or a call is made that takes none
pub data Act : Type 0 where
  HandStep : Bool → ℕ → Act
  HandRun : Bool → ℕ → ℕ → Act
  HandNext : Bool → ℕ → ℕ → Act
  PressKey : ℕ → ℕ → Act
  RebuildRows : Act
  SaveSetup : Act
  RestoreSetup : ℕ → Act

abbrev pub step_on : Bool → ℕ → ℕ → SessionCall
step_on with b room = Terminal (pick with (ListStep b room) (Bare (Step b room)))

abbrev pub run_on : Bool → List ℕ → ℕ → SessionCall
run_on with bytes room = Terminal (pick with (ListRun bytes room) (Bare (Run bytes room)))

-- the call that an act makes over what is left of the stream. Where nothing is, there is no byte to step on: a run over none
unfoldable pub call_of : Act → List ℕ → SessionCall
call_of (HandStep with room) [] = run_on with [] room
call_of (HandStep with room) (b ∷ stream) = step_on with b room
call_of (HandRun with n room) stream = run_on with (take n stream) room
call_of (HandNext with n room) stream = Terminal (Next with (take n stream) room)
call_of (PressKey v room) stream = Terminal (Bare (Press v room))
call_of RebuildRows stream = Terminal Rebuild
call_of SaveSetup stream = Save
call_of (RestoreSetup n) stream = Restore n

-- the host bytes that a call is handed, and those of them that it hands back: it took as many as its first count says
unfoldable pub host_bytes : SessionCall → List ℕ
host_bytes (Terminal (Bare (Step b room))) = b ∷ []
host_bytes (Terminal (Bare (Run bytes room))) = bytes
host_bytes (Terminal (Bare (Press v room))) = []
host_bytes (Terminal (ListStep b room)) = b ∷ []
host_bytes (Terminal (ListRun bytes room)) = bytes
host_bytes (Terminal (Next with bytes room)) = bytes
host_bytes (Terminal Rebuild) = []
host_bytes Save = []
host_bytes (Restore n) = []

abbrev pub taken_by : Told → ℕ
taken_by (Heard g) = get_or g.counts 0 0
taken_by (Saved n m) = 0
taken_by (Restored n) = 0

abbrev pub handed_back : SessionCall → Told → List ℕ
handed_back c t = drop (taken_by t) (host_bytes c)

-- what a call leaves of the stream: what it handed back comes first, and then what it was not handed
abbrev pub left_of : List ℕ → SessionCall → List ℕ → List ℕ
left_of stream c back = back ++ drop (length (host_bytes c)) stream

pub record StreamPlayed : Type 0 where
  pub session : SessionPlayed
  pub left : List ℕ

unfoldable pub stream_play : List Act → List ℕ → Kept → StreamPlayed
stream_play [] stream x = record { session = record { given = []; kept = x }; left = stream }
stream_play (a ∷ acts) stream x =
    let c = call_of a stream in
    let r = session_rule x c in
    let t = stream_play acts (left_of stream c (handed_back c r.told)) r.kept in
    record { session = session_after r t.session; left = t.left }

-- the calls that it comes to
unfoldable pub calls_of : List Act → List ℕ → Kept → List SessionCall
calls_of [] stream x = []
calls_of (a ∷ acts) stream x =
    let c = call_of a stream in let r = session_rule x c in c ∷ calls_of acts (left_of stream c (handed_back c r.told)) r.kept

pub record StreamIndistinguishable (p q : List ℕ) (a b : StreamPlayed) : Type 0 where
  pub session : SessionIndistinguishable p q a.session b.session
  pub left : a.left ≡ b.left

abbrev pub StreamNoninterference : Type 0
StreamNoninterference =
    (p q l store stream : List ℕ) (s : State) (acts : List Act) → s.core.modes.protect ≡ true → revealing s.sending ≡ false → AlikePages p q
    → session_completed (calls_of acts stream (start p l s store)) (start p l s store) ≡ false
    → StreamIndistinguishable p q (stream_play acts stream (start p l s store)) (stream_play acts stream (start q l s store))
