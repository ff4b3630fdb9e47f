-- Demand 3 of the exported calls with row lists, the statement: two terminals that start with the same numbers and the same list, right or
-- wrong, run by the same calls, whose promises hold, are indistinguishable.
use Rattle.std.specs.Prelude.{◌≡◌, Bool, List, [], ◌∷◌, ◌++◌, ℕ, length, take, drop}
use Rattle.rules.specs.Cell.{pick}
use Rattle.rules.specs.Calls.{Call, Step, Run}
use Rattle.rules.specs.Theorems.Noninterference.{AlikePages, KeptPages}
use Rattle.rules.specs.Next.{next_rule, reply_command}
use Rattle.rules.specs.RowCalls.{RowCall, Bare, ListStep, ListRun, Next, Rebuild}
use Rattle.wy50.specs.declared.raw.RawState.{RawState}
use Rattle.wy50.specs.declared.raw.RawStep.{RawStep}
use Rattle.wy50.specs.declared.raw.RawRun.{RawRun}
use Rattle.wy50.specs.declared.raw.RawNext.{RawNext}
use Rattle.wy50.specs.Raw.{unpacked}
use Rattle.wy50.specs.Promise.{RawRan, Stepped, RunDone}
use Rattle.wy50.specs.Rows.{raw_listed, raw_step_rows, raw_run_rows, raw_suited, raw_next, next_run, raw_rows_after, raw_rebuild_answer, raw_rebuilt}
use Rattle.wy50.specs.Noninterference.{RawGiven, RawCalled, of_raw_step, of_raw_run, raw_call, RawCompleted, step_seen, run_seen, Made, Concealing}

-- what a C caller keeps from call to call
pub record RawSession : Type 0 where
  pub page : List ℕ
  pub rows : List ℕ
  pub state : RawState

pub record RawRowCalled : Type 0 where
  pub called : RawCalled
  pub rows : List ℕ

abbrev pub left : RawRowCalled → RawSession
left r = record { page = r.called.page; rows = r.rows; state = r.called.given.state }

abbrev pub listed : RawSession → RawCalled → RawRowCalled
listed x r = record { called = r; rows = raw_rows_after x.page x.rows x.state r.page r.given.state }

-- `next` gives the command too
abbrev pub of_raw_next : RawState → List ℕ → RawRan → RawCalled
of_raw_next x bytes o = record {
  given = record {
    answer = o.answer;
    counts = o.taken ∷ length o.reply ∷ o.refused ∷ reply_command (unpacked x).sending bytes o.taken (length o.reply) ∷ [];
    reply = o.reply;
    rest = o.rest;
    state = o.state;
  };
  page = o.page;
}

abbrev pub next_seen : RawNext → List ℕ → List ℕ → RawGiven
next_seen r l w = record {
  answer = r.answer;
  counts = r.taken ∷ r.replied ∷ r.refused ∷ r.command ∷ [];
  reply = take r.replied w;
  rest = drop r.taken l;
  state = r.state;
}

-- the list that `next` is handed, and the one after it: left alone where it was not handed in
abbrev pub handed : Bool → RawSession → List ℕ
handed with x = pick with x.rows []

abbrev pub heard : Bool → RawSession → RawCalled → RawRowCalled
heard with x r = record { called = r; rows = pick with (raw_rows_after x.page x.rows x.state r.page r.given.state) x.rows }

-- the rebuild changes neither page nor numbers
abbrev pub answering : RawSession → ℕ → RawCalled
answering x n = record { given = record { answer = n; counts = []; reply = []; rest = []; state = x.state }; page = x.page }

unfoldable pub raw_row_call : RawSession → RowCall → RawRowCalled
raw_row_call x (Bare c) = record { called = raw_call x.page x.state c; rows = x.rows }
raw_row_call x (ListStep b room) = listed x (of_raw_step (raw_step_rows x.page x.rows x.state b room))
raw_row_call x (ListRun bytes room) = listed x (of_raw_run (raw_run_rows x.page x.rows x.state bytes room))
raw_row_call x (Next with bytes room) = heard with x (of_raw_next x.state bytes (raw_next x.page (handed with x) x.state bytes room))
raw_row_call x Rebuild = record {
  called = answering x (raw_rebuild_answer x.page x.rows x.state);
  rows = raw_rebuilt x.page x.rows x.state;
}

-- the run that `next` comes to: over the bytes that it takes
abbrev pub run_of : RawSession → List ℕ → ℕ → Call
run_of x bytes room = Run (take (next_rule x.page (unpacked x.state) bytes room).taken bytes) room

-- the calls without lists that a list of calls comes to, as in the rules
unfoldable pub bare_call : RawSession → RowCall → List Call
bare_call x (Bare c) = c ∷ []
bare_call x (ListStep b room) = pick (raw_listed x.page x.rows x.state) (Step b room ∷ []) []
bare_call x (ListRun bytes room) = pick (raw_listed x.page x.rows x.state) (Run bytes room ∷ []) []
bare_call x (Next with bytes room) = pick (raw_suited x.page (handed with x) x.state) (run_of x bytes room ∷ []) []
bare_call x Rebuild = []

unfoldable pub bare_calls : List RowCall → RawSession → List Call
bare_calls [] x = []
bare_calls (c ∷ cs) x = bare_call x c ++ bare_calls cs (left (raw_row_call x c))

-- a call that was made on x: what C sees of it, the page p' and the list l' are as it promises
pub data RowMade (x : RawSession) : RowCall → RawGiven → List ℕ → List ℕ → Type 0 where
  bare : {c : Call} {g : RawGiven} {p' : List ℕ} → Made x.page x.state c g p' → RowMade x (Bare c) g p' x.rows
  list_stepped : {b : ℕ} {w w' p' l' : List ℕ} {r : RawStep} → Stepped (raw_step_rows x.page x.rows x.state b (length w)) r p' w w'
      → l' ≡ raw_rows_after x.page x.rows x.state p' r.state → RowMade x (ListStep b (length w)) (step_seen r w') p' l'
  list_ran : {i w w' p' l' : List ℕ} {r : RawRun} → RunDone (raw_run_rows x.page x.rows x.state i (length w)) r i p' w w'
      → l' ≡ raw_rows_after x.page x.rows x.state p' r.state → RowMade x (ListRun i (length w)) (run_seen r i w') p' l'
  next_heard : {with : Bool} {i w w' p' l' : List ℕ} {r : RawNext}
      → RunDone (raw_next x.page (handed with x) x.state i (length w)) (next_run r) i p' w w'
      → r.command ≡ reply_command (unpacked x.state).sending i r.taken r.replied
      → l' ≡ pick with (raw_rows_after x.page x.rows x.state p' r.state) x.rows
      → RowMade x (Next with i (length w)) (next_seen r i w') p' l'
  rebuilt_rows : {n : ℕ} {l' : List ℕ} → n ≡ raw_rebuild_answer x.page x.rows x.state → l' ≡ raw_rebuilt x.page x.rows x.state
      → RowMade x Rebuild (record { answer = n; counts = []; reply = []; rest = []; state = x.state }) x.page l'

-- a list of calls, each made on what the last one left: what they gave, the lists after each, and what is kept at the end
pub data RowPerformed : RawSession → List RowCall → List RawGiven → List (List ℕ) → RawSession → Type 0 where
  none : {x : RawSession} → RowPerformed x [] [] [] x
  next : {x y : RawSession} {p' l' : List ℕ} {c : RowCall} {cs : List RowCall} {g : RawGiven} {gs : List RawGiven} {ls : List (List ℕ)}
      → RowMade x c g p' l'
      → RowPerformed (record { page = p'; rows = l'; state = g.state }) cs gs ls y → RowPerformed x (c ∷ cs) (g ∷ gs) (l' ∷ ls) y

pub record RawRowIndistinguishable (p q : List ℕ) (gs hs : List RawGiven) (ls ms : List (List ℕ)) (y z : RawSession) : Type 0 where
  pub given : gs ≡ hs
  pub lists : ls ≡ ms
  pub rows : y.rows ≡ z.rows
  pub state : y.state ≡ z.state
  pub pages : KeptPages p q y.page z.page

abbrev pub RawRowNoninterference : Type 0
RawRowNoninterference =
    (p q l : List ℕ) (x : RawState) (calls : List RowCall) (gs hs : List RawGiven) (ls ms : List (List ℕ)) (y z : RawSession) → x.modes.protect ≡ 1
    → Concealing x.sending → AlikePages p q → (RawCompleted (bare_calls calls (record { page = p; rows = l; state = x })) p x → ⊥)
    → RowPerformed (record { page = p; rows = l; state = x }) calls gs ls y → RowPerformed (record { page = q; rows = l; state = x }) calls hs ms z
    → RawRowIndistinguishable p q gs hs ls ms y z
