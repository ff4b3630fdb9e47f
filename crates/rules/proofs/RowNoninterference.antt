-- Demand 3 with row lists. A list is decided by which cells are guarded, and these are equal in both terminals: so is whether it agrees, and
-- what it becomes. A call with a list is then the call without it, or refused, in both.
-- Assumes nothing.
use mathlib.Core.Path.{◌≡◌, refl, sym, ap, ap₂, ◌∙◌}
use mathlib.Core.Bool.{Bool, true, false}
use mathlib.Core.List.{List, [], ◌∷◌, ◌++◌}
use Prim.Native.Nat.{ℕ}
use Rattle.rules.specs.declared.State.{State}
use lib.Dec.{eqb}
use lib.ListN.{length}
use Rattle.rules.specs.Cell.{pick, either, same}
use Rattle.rules.specs.State.{width_of}
use Rattle.rules.specs.Step.{unheard, step_rule}
use Rattle.rules.specs.Calls.{Call, Step, Run, Called, run_rule, ended, of_step, of_run, call_rule, Given, after, play}
use Rattle.rules.specs.Theorems.Noninterference.{call_completes, any_completed}
use Rattle.rules.specs.RowList.{row_list, rows_of, agrees}
use Rattle.rules.specs.RowCalls.{step_rows_rule, run_rows_rule, rows_after, can_rebuild, Session, RowCall, Bare, ListStep, ListRun, Next, Rebuild}
use Rattle.rules.specs.RowCalls.{RowCalled, left, suits, next_rows_rule, handed, heard, run_of, row_call_rule, RowPlayed, row_after, row_play}
use Rattle.rules.specs.RowCalls.{bare_call, bare_calls}
use Rattle.rules.specs.Theorems.RowNoninterference.{RowNoninterference}
use Rattle.rules.proofs.Related.{Related}
use Rattle.rules.proofs.RowSteps.{call_leaves}
use Rattle.rules.proofs.Noninterference.{protects, Closed, guards_agree, good_agrees, AgreeCall, call_agrees, next_call_agrees, either_left}
use Rattle.rules.proofs.Noninterference.{either_right, start_related, related_kept}

record AgreeRows (p q : List ℕ) (a b : RowCalled) : Type 0 where
  called : AgreeCall p q a.called b.called
  rows : a.rows ≡ b.rows

abbrev session : List ℕ → List ℕ → State → Session
session p l s = record { page = p; rows = l; state = s }

-- the first of some calls completes nothing, nor do those after it
first_completes : (c : Call) (cs : List Call) (p : List ℕ) (s : State) → any_completed (c ∷ cs) p s ≡ false
    → (call_completes p s c ≡ false) × (any_completed cs (call_rule p s c).page (call_rule p s c).given.state ≡ false)
unfolding any_completed
first_completes c cs p s e = (either_left (call_completes p s c) _ e, either_right (call_completes p s c) _ e)

module _ {p q x y : List ℕ} (h : Related p q x y) (l : List ℕ) (s : State) (closed : Closed s) where
  rows_agree : rows_of x s ≡ rows_of y s
  rows_agree = ap (row_list (width_of s.core.screen)) (guards_agree (protects s) closed.on h)

  -- the list is that of the page and the state left
  left_rows : {a b : Called} → AgreeCall p q a b → rows_of a.page a.given.state ≡ rows_of b.page b.given.state
  left_rows {a} {b} k =
      ap (row_list (width_of a.given.state.core.screen)) (guards_agree (protects a.given.state) k.closed.on k.related)
      ∙ ap (λ (g : Given). rows_of b.page g.state) (sym k.given)

  -- a call with the list: t says whether it agrees
  taken_agrees : (c : Call) → call_completes x s c ≡ false
      → AgreeRows p q (record { called = call_rule x s c; rows = rows_of (call_rule x s c).page (call_rule x s c).given.state })
      (record { called = call_rule y s c; rows = rows_of (call_rule y s c).page (call_rule y s c).given.state })
  taken_agrees c e = let k = call_agrees h s closed c e in record { called = k; rows = left_rows k }

  refused_agrees : (bytes : List ℕ) → AgreeCall p q (of_run (ended x s 7 bytes)) (of_run (ended y s 7 bytes))
  unfolding of_run
  refused_agrees bytes = record { given = refl; related = h; closed = closed }

  -- `next`, with the list or with none
  suits_agrees : (k : List ℕ) → suits k x s ≡ suits k y s
  suits_agrees k = ap (λ (r : List ℕ). either (eqb (length k) 0) (same k r)) rows_agree

  heard_agrees : (with : Bool) (a b : Called) → AgreeCall p q a b → AgreeRows p q (heard with (session x l s) a) (heard with (session y l s) b)
  unfolding rows_after
  heard_agrees true a b k = record { called = k; rows = rw (← rows_agree) (by (agrees l x s)) }
    where
      by : (t : Bool) → pick t (rows_of a.page a.given.state) l ≡ pick t (rows_of b.page b.given.state) l
      by true = left_rows k
      by false = refl
  heard_agrees false a b k = record { called = k; rows = refl }

  next_with : (with : Bool) (bytes : List ℕ) (room : ℕ) (t : Bool) → suits (handed with (session x l s)) x s ≡ t
      → any_completed (pick t (run_of (session x l s) bytes room ∷ []) []) x s ≡ false
      → AgreeRows p q (heard with (session x l s) (of_run (next_rows_rule x (handed with (session x l s)) s bytes room)))
      (heard with (session y l s) (of_run (next_rows_rule y (handed with (session y l s)) s bytes room)))
  unfolding next_rows_rule
  next_with with bytes room true k e =
      rw (k, sym (suits_agrees (handed with (session x l s))) ∙ k)
      (heard_agrees with _ _ (next_call_agrees h s closed bytes room (first_completes (run_of (session x l s) bytes room) [] x s e).0))
  next_with with bytes room false k e =
      rw (k, sym (suits_agrees (handed with (session x l s))) ∙ k)
      (heard_agrees with (of_run (ended x s 7 bytes)) (of_run (ended y s 7 bytes)) (refused_agrees bytes))

  call_with : (c : RowCall) → any_completed (bare_call (session x l s) c) x s ≡ false
      → AgreeRows p q (row_call_rule (session x l s) c) (row_call_rule (session y l s) c)
  unfolding row_call_rule bare_call rows_after can_rebuild step_rows_rule run_rows_rule call_rule of_step of_run
  call_with (Bare c) e = record { called = call_agrees h s closed c (first_completes c [] x s e).0; rows = refl }
  call_with (ListStep b room) e = rw (← rows_agree) (by (agrees l x s) e)
    where
      by : (t : Bool) → any_completed (pick t (Step b room ∷ []) []) x s ≡ false
          → let a = of_step (pick t (step_rule x s b room) (unheard 7 x s)) in
          let d = of_step (pick t (step_rule y s b room) (unheard 7 y s)) in
          AgreeRows p q (record { called = a; rows = pick t (rows_of a.page a.given.state) l })
          (record { called = d; rows = pick t (rows_of d.page d.given.state) l })
      by true e = taken_agrees (Step b room) (first_completes (Step b room) [] x s e).0
      by false e = record { called = record { given = refl; related = h; closed = closed }; rows = refl }
  call_with (ListRun bytes room) e = rw (← rows_agree) (by (agrees l x s) e)
    where
      by : (t : Bool) → any_completed (pick t (Run bytes room ∷ []) []) x s ≡ false
          → let a = of_run (pick t (run_rule x s bytes room) (ended x s 7 bytes)) in
          let d = of_run (pick t (run_rule y s bytes room) (ended y s 7 bytes)) in
          AgreeRows p q (record { called = a; rows = pick t (rows_of a.page a.given.state) l })
          (record { called = d; rows = pick t (rows_of d.page d.given.state) l })
      by true e = taken_agrees (Run bytes room) (first_completes (Run bytes room) [] x s e).0
      by false e = record { called = record { given = refl; related = h; closed = closed }; rows = refl }
  call_with (Next with bytes room) e = next_with with bytes room (suits (handed with (session x l s)) x s) refl e
  call_with Rebuild e = rw (← rows_agree, ← (good_agrees h s closed))
      (record { called = record { given = refl; related = h; closed = closed }; rows = refl })

-- what two lists of calls come to
any_append : (a b : List Call) (p : List ℕ) (s : State) → any_completed (a ++ b) p s ≡ false
    → (any_completed a p s ≡ false) × (any_completed b (play a p s).page (play a p s).state ≡ false)
unfolding any_completed play after
any_append [] b p s e = (refl, e)
any_append (c ∷ a) b p s e =
    let h = first_completes c (a ++ b) p s e in
    let r = any_append a b (call_rule p s c).page (call_rule p s c).given.state h.1 in
    (neither (call_completes p s c) _ h.0 r.0, r.1)
  where
    neither : (t u : Bool) → t ≡ false → u ≡ false → either t u ≡ false
    neither t u e f = rw (e, f)

record AgreeRowPlay (p q : List ℕ) (a b : RowPlayed) : Type 0 where
  given : a.given ≡ b.given
  lists : a.lists ≡ b.lists
  rows : a.session.rows ≡ b.session.rows
  state : a.session.state ≡ b.session.state
  related : Related p q a.session.page b.session.page

row_play_agrees : (cs : List RowCall) {p q x y : List ℕ} → Related p q x y → (l : List ℕ) (s : State) → Closed s
    → any_completed (bare_calls cs (session x l s)) x s ≡ false → AgreeRowPlay p q (row_play cs (session x l s)) (row_play cs (session y l s))
unfolding row_play bare_calls row_after
row_play_agrees [] h l s closed e = record { given = refl; lists = refl; rows = refl; state = refl; related = h }
row_play_agrees (c ∷ cs) {x = x} h l s closed e =
    let r = row_call_rule (session x l s) c in
    let n = any_append (bare_call (session x l s) c) (bare_calls cs (left r)) x s e in
    let k = call_leaves (session x l s) c in
    let a = call_with h l s closed c n.0 in
    let rest : any_completed (bare_calls cs (left r)) r.called.page r.called.given.state ≡ false =
    ap₂ (λ (p : List ℕ) (s : State). any_completed (bare_calls cs (left r)) p s) k.page k.state ∙ n.1 in
    let b = row_play_agrees cs a.called.related r.rows r.called.given.state a.called.closed rest in
    rw (a.called.given, ← a.rows)
    record { given = rw b.given; lists = rw b.lists; rows = b.rows; state = b.state; related = b.related }

pub row_noninterference : RowNoninterference
row_noninterference p q l s calls on conceals alike e =
    let a = row_play_agrees calls (start_related p q alike) l s record { on = on; conceals = conceals } e in
    record {
      calls = record { given = a.given; state = a.state; pages = related_kept a.related };
      lists = a.lists;
      rows = a.rows;
    }
