-- Demand 3 of the code with row lists, the statement: two terminals that start with the same list, run by the same calls, whose promises hold.
use Rattle.std.specs.Prelude.{◌≡◌, ℕ, Bool, true, false, List, [], ◌∷◌, length, Result}
use Rattle.rules.specs.declared.State.{State}
use Rattle.rules.specs.declared.Answer.{Answer}
use Rattle.rules.specs.declared.StepResult.{StepResult}
use Rattle.rules.specs.declared.RunResult.{RunResult}
use Rattle.rules.specs.Cell.{pick}
use Rattle.rules.specs.Calls.{Call, Given}
use Rattle.rules.specs.Theorems.Noninterference.{AlikePages, revealing, any_completed}
use Rattle.rules.specs.RowCalls.{step_rows_rule, run_rows_rule, next_rows_rule, rows_after, rebuild_answer, rebuilt, Session, RowCall, Bare, ListStep}
use Rattle.rules.specs.RowCalls.{ListRun, Next, Rebuild, handed, RowPlayed, row_after, bare_calls}
use Rattle.rules.specs.Theorems.RowNoninterference.{RowIndistinguishable}
use Rattle.terminal.specs.Promise.{Stepped, RunDone, answer_of, Rebuilt}
use Rattle.terminal.specs.Noninterference.{step_seen, run_seen, Made}

-- a call that was made on the page, the list and the state of x: its result, the page p' and the list l' are as it promises
pub data RowMade (x : Session) : RowCall → Given → List ℕ → List ℕ → Type 0 where
  bare : {c : Call} {g : Given} {p' : List ℕ} → Made x.page x.state c g p' → RowMade x (Bare c) g p' x.rows
  list_stepped : {b : ℕ} {w w' p' l' : List ℕ} {r : StepResult} → Stepped (step_rows_rule x.page x.rows x.state b (length w)) r p' w w'
      → l' ≡ rows_after x.page x.rows x.state p' r.state → RowMade x (ListStep b (length w)) (step_seen r w') p' l'
  list_ran : {i w w' p' l' : List ℕ} {r : RunResult} → RunDone (run_rows_rule x.page x.rows x.state i (length w)) r i p' w w'
      → l' ≡ rows_after x.page x.rows x.state p' r.state → RowMade x (ListRun i (length w)) (run_seen r i w') p' l'
  heard : {with : Bool} {i w w' p' l' : List ℕ} {r : RunResult}
      → RunDone (next_rows_rule x.page (handed with x) x.state i (length w)) r i p' w w'
      → l' ≡ pick with (rows_after x.page x.rows x.state p' r.state) x.rows → RowMade x (Next with i (length w)) (run_seen r i w') p' l'
  rebuilt_rows : {r : Result (Unit {0}) Answer} {l' : List ℕ} → Rebuilt (rebuild_answer x.page x.rows x.state) r
      → l' ≡ rebuilt x.page x.rows x.state
      → RowMade x Rebuild (record { answer = answer_of r; counts = []; reply = []; rest = []; state = x.state }) x.page l'

-- a list of calls, each made on what the last one left
pub data RowPerformed : Session → List RowCall → RowPlayed → Type 0 where
  none : {x : Session} → RowPerformed x [] (record { given = []; lists = []; session = x })
  next : {x : Session} {p' l' : List ℕ} {c : RowCall} {cs : List RowCall} {g : Given} {r : RowPlayed} → RowMade x c g p' l'
      → RowPerformed (record { page = p'; rows = l'; state = g.state }) cs r
      → RowPerformed x (c ∷ cs) (row_after (record { called = record { given = g; page = p' }; rows = l' }) r)

-- demand 3, of terminals that run the code
abbrev pub CodeRowNoninterference : Type 0
CodeRowNoninterference =
    (p q l : List ℕ) (s : State) (calls : List RowCall) (a b : RowPlayed) → s.core.modes.protect ≡ true → revealing s.sending ≡ false
    → AlikePages p q
    → any_completed (bare_calls calls (record { page = p; rows = l; state = s })) p s ≡ false
    → RowPerformed (record { page = p; rows = l; state = s }) calls a → RowPerformed (record { page = q; rows = l; state = s }) calls b
    → RowIndistinguishable p q a b
