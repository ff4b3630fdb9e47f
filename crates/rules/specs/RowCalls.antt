-- The calls with a row list (document 02, A5). A list of the wrong length, or one that disagrees at entry, answers 7, and nothing has changed;
-- else they give what the calls without it give, and the list is that of the page and the state that they leave.
use Rattle.std.specs.Prelude.{Bool, List, [], ◌∷◌, ◌++◌, ℕ, ◌*◌, eqb, length, take}
use Rattle.rules.specs.declared.State.{State}
use Rattle.rules.specs.Cell.{pick, both, either}
use Rattle.rules.specs.Row.{height}
use Rattle.rules.specs.Possible.{good}
use Rattle.rules.specs.Step.{Outcome, unheard, step_rule}
use Rattle.rules.specs.Calls.{Ran, ended, run_rule, Call, Step, Run, Called, of_step, of_run, call_rule, Given}
use Rattle.rules.specs.Next.{next_rule}
use Rattle.rules.specs.RowList.{rows_of, agrees}

-- l is the list
unfoldable pub step_rows_rule : List ℕ → List ℕ → State → ℕ → ℕ → Outcome
step_rows_rule p l s b room =
    let r = step_rule p s b room in pick (agrees l p s) r (unheard 7 p s)

unfoldable pub run_rows_rule : List ℕ → List ℕ → State → List ℕ → ℕ → Ran
run_rows_rule p l s bytes room = let r = run_rule p s bytes room in pick (agrees l p s) r (ended p s 7 bytes)

-- `next` takes a list that agrees, or none: one of no numbers
abbrev pub suits : List ℕ → List ℕ → State → Bool
suits l p s = either (eqb (length l) 0) (agrees l p s)

unfoldable pub next_rows_rule : List ℕ → List ℕ → State → List ℕ → ℕ → Ran
next_rows_rule p l s bytes room = let r = next_rule p s bytes room in pick (suits l p s) r (ended p s 7 bytes)

-- the list after a call that left the page p' and the state s'
unfoldable pub rows_after : List ℕ → List ℕ → State → List ℕ → State → List ℕ
rows_after p l s p' s' = pick (agrees l p s) (rows_of p' s') l

-- the rebuild reads no old number: a list of the wrong length, a page of the wrong length or an impossible state answers 7
unfoldable pub can_rebuild : List ℕ → List ℕ → State → Bool
can_rebuild p l s = both (eqb (length l) (2 * height)) (good p s)

abbrev pub rebuild_answer : List ℕ → List ℕ → State → ℕ
rebuild_answer p l s = pick (can_rebuild p l s) 0 7

abbrev pub rebuilt : List ℕ → List ℕ → State → List ℕ
rebuilt p l s = pick (can_rebuild p l s) (rows_of p s) l

-- ---- lists of calls

-- what a caller keeps from call to call
pub record Session : Type 0 where
  pub page : List ℕ
  pub rows : List ℕ
  pub state : State

-- a call without the list, the step and the run with it, `next` with it or with none, the rebuild; the key press takes none
pub data RowCall : Type 0 where
  Bare : Call → RowCall
  ListStep : ℕ → ℕ → RowCall
  ListRun : List ℕ → ℕ → RowCall
  Next : Bool → List ℕ → ℕ → RowCall
  Rebuild : RowCall

pub record RowCalled : Type 0 where
  pub called : Called
  pub rows : List ℕ

abbrev pub left : RowCalled → Session
left r = record { page = r.called.page; rows = r.rows; state = r.called.given.state }

-- a call that took the list
abbrev pub listed : Session → Called → RowCalled
listed x r = record { called = r; rows = rows_after x.page x.rows x.state r.page r.given.state }

-- the list that `next` is handed
abbrev pub handed : Bool → Session → List ℕ
handed with x = pick with x.rows []

-- it is left alone where it was not handed in
abbrev pub heard : Bool → Session → Called → RowCalled
heard with x r = record { called = r; rows = pick with (rows_after x.page x.rows x.state r.page r.given.state) x.rows }

-- the rebuild changes neither page nor state
abbrev pub answering : Session → ℕ → Called
answering x n = record { given = record { answer = n; counts = []; reply = []; rest = []; state = x.state }; page = x.page }

unfoldable pub row_call_rule : Session → RowCall → RowCalled
row_call_rule x (Bare c) = record { called = call_rule x.page x.state c; rows = x.rows }
row_call_rule x (ListStep b room) = listed x (of_step (step_rows_rule x.page x.rows x.state b room))
row_call_rule x (ListRun bytes room) = listed x (of_run (run_rows_rule x.page x.rows x.state bytes room))
row_call_rule x (Next with bytes room) = heard with x (of_run (next_rows_rule x.page (handed with x) x.state bytes room))
row_call_rule x Rebuild = record {
  called = answering x (rebuild_answer x.page x.rows x.state);
  rows = rebuilt x.page x.rows x.state;
}

-- each call is made on what the last one left; the list is part of what it gives back
pub record RowPlayed : Type 0 where
  pub given : List Given
  pub lists : List (List ℕ)
  pub session : Session

unfoldable pub row_after : RowCalled → RowPlayed → RowPlayed
row_after c r = record { given = c.called.given ∷ r.given; lists = c.rows ∷ r.lists; session = r.session }

unfoldable pub row_play : List RowCall → Session → RowPlayed
row_play [] x = record { given = []; lists = []; session = x }
row_play (c ∷ cs) x = let r = row_call_rule x c in row_after r (row_play cs (left r))

-- the run that `next` comes to: over the bytes that it takes
abbrev pub run_of : Session → List ℕ → ℕ → Call
run_of x bytes room = Run (take (next_rule x.page x.state bytes room).taken bytes) room

-- the calls without lists that a list of calls comes to: one refused for its list comes to none, and so does the rebuild
unfoldable pub bare_call : Session → RowCall → List Call
bare_call x (Bare c) = c ∷ []
bare_call x (ListStep b room) = pick (agrees x.rows x.page x.state) (Step b room ∷ []) []
bare_call x (ListRun bytes room) = pick (agrees x.rows x.page x.state) (Run bytes room ∷ []) []
bare_call x (Next with bytes room) = pick (suits (handed with x) x.page x.state) (run_of x bytes room ∷ []) []
bare_call x Rebuild = []

unfoldable pub bare_calls : List RowCall → Session → List Call
bare_calls [] x = []
bare_calls (c ∷ cs) x = bare_call x c ++ bare_calls cs (left (row_call_rule x c))
