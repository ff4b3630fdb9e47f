-- What a session's calls give back and hand back, by the rules of each.
--     given_back, one_by_one, handed_back_lem
--     run_rests, next_rests     of a run and of `next`
--     carries_demand3     demand 3 with row lists from the statement over sessions
-- Assumes nothing.
use mathlib.Core.Path.{◌≡◌, refl, sym, ap, ap₂, subst, subst₂, ◌∙◌}
use mathlib.Core.Bool.{Bool, true, false}
use mathlib.Core.List.{List, [], ◌∷◌, ◌++◌, map}
use Prim.Native.Nat.{ℕ, zero, suc, ◌-◌}
use native.Mathlib.Omega.{arith}
use lib.Dec.{eqb}
use lib.ListN.{length, drop}
use lib.Seq.{drop-nil}
use Rattle.rules.specs.declared.State.{State}
use Rattle.rules.specs.Cell.{pick, either}
use Rattle.rules.specs.State.{sends}
use Rattle.rules.specs.Possible.{good}
use Rattle.rules.specs.Step.{Outcome, goes_on, step_rule}
use Rattle.rules.specs.Calls.{Ran, ended, joined, behind, run_rule, press_rule, Call, of_step, of_run, of_press, call_rule, Given, after, play}
use Rattle.rules.specs.Next.{tells, at_event, to_event, next_rule}
use Rattle.rules.specs.RowList.{agrees}
use Rattle.rules.specs.RowCalls.{step_rows_rule, run_rows_rule, suits, next_rows_rule, Session, RowCall, handed, left, row_call_rule, row_after, row_play}
use Rattle.rules.specs.RowCalls.{bare_call, bare_calls}
use Rattle.rules.specs.Theorems.Noninterference.{KeptPages, call_completes, any_completed}
use Rattle.rules.proofs.Run.{run_repeats, run_resumes, run_unheard, run_refused}
use Rattle.rules.proofs.Next.{to_done, to_event_lem, to_go, next_outside, next_inside_lem, next_unheard, next_refused}
use Rattle.rules.proofs.RowSteps.{call_leaves}
use Rattle.rules.proofs.Noninterference.{either_left, either_right}
use Rattle.session.specs.Sessions.{SessionCall, Terminal, Kept, Told, Heard, Saved, Restored, session_rule, SessionGiven, given_by, session_after}
use Rattle.session.specs.Sessions.{session_play, call_completed, session_completed, host_bytes}
use Rattle.session.specs.Given.{GivenBack, OneByOne, HandedBack, CarriesNoninterference}

pub given_back : (p l : List ℕ) (s : State) (store : List ℕ) → GivenBack p l s store
unfolding session_play session_after session_rule
given_back p l s store = record { terminal = λ c. refl; save = refl; restore = λ n. refl }

pub one_by_one : (calls more : List SessionCall) (x : Kept) → OneByOne calls more x
unfolding session_play session_after
one_by_one [] more x = record { given = refl; kept = refl }
one_by_one (c ∷ calls) more x =
    let k = one_by_one calls more (session_rule x c).kept in
    record { given = ap (λ (gs : List SessionGiven). given_by (session_rule x c) ∷ gs) k.given; kept = k.kept }

-- ---- what is handed back

-- of a run r over bytes
abbrev pub Rests : List ℕ → Ran → Type 0
Rests bytes r = drop r.taken bytes ≡ r.rest

ended_rests : (p : List ℕ) (s : State) (n : ℕ) (bytes : List ℕ) → Rests bytes (ended p s n bytes)
ended_rests p s n bytes = refl

behind_rests : (l bytes : List ℕ) (r : Ran) → Rests bytes r → Rests bytes (behind l r)
unfolding behind
behind_rests l bytes r e = e

pub run_rests : (p : List ℕ) (s : State) (bytes : List ℕ) (room : ℕ) → Rests bytes (run_rule p s bytes room)
run_rests p s bytes room = by (good p s) (sends s.sending) room refl refl
  where
    by : (g u : Bool) (room : ℕ) → good p s ≡ g → sends s.sending ≡ u → Rests bytes (run_rule p s bytes room)
    by false u room h i = let r = run_refused p s bytes room h in ap (λ (n : ℕ). drop n bytes) r.taken ∙ sym r.rest
    by true false room h i = sym (run_repeats p s bytes room h i).rest
    by true true zero h i = subst (Rests bytes) (sym (run_unheard p s bytes h i)) (ended_rests p s (pick (eqb (length bytes) 0) 0 6) bytes)
    by true true (suc n) h i =
        let r = run_resumes p s bytes (suc n) h i (omega arith) in
        subst (Rests bytes) (sym r.whole) (behind_rests (goes_on p s (suc n)).reply bytes r.bytes_run (sym r.repeats.rest))

event_rests : (o : Outcome) (b : ℕ) (bs : List ℕ) → Rests (b ∷ bs) (at_event o b bs)
unfolding at_event
event_rests o b bs = by o.taken
  where
    by : (t : Bool) → drop (pick t 1 0) (b ∷ bs) ≡ pick t bs (b ∷ bs)
    by true = refl
    by false = refl

joined_rests : (o : Outcome) (b : ℕ) (bs : List ℕ) (r : Ran) → Rests bs r → Rests (b ∷ bs) (joined o r)
unfolding joined
joined_rests o b bs r e = e

to_rests : (bytes p : List ℕ) (s : State) (room : ℕ) → Rests bytes (to_event bytes p s room)
to_rests [] p s room = subst (Rests []) (sym (to_done p s room)) refl
to_rests (b ∷ bs) p s room = by (tells o) refl (to_rests bs o.page o.state (room - length o.reply))
  where
    o : Outcome
    o = step_rule p s b room

    by : (t : Bool) → tells o ≡ t → Rests bs (to_event bs o.page o.state (room - length o.reply)) → Rests (b ∷ bs) (to_event (b ∷ bs) p s room)
    by true e ih = subst (Rests (b ∷ bs)) (sym (to_event_lem b bs p s room e)) (event_rests o b bs)
    by false e ih = subst (Rests (b ∷ bs)) (sym (to_go b bs p s room e))
        (joined_rests o b bs (to_event bs o.page o.state (room - length o.reply)) ih)

pub next_rests : (p : List ℕ) (s : State) (bytes : List ℕ) (room : ℕ) → Rests bytes (next_rule p s bytes room)
next_rests p s bytes room = by (good p s) (sends s.sending) room refl refl
  where
    by : (g u : Bool) (room : ℕ) → good p s ≡ g → sends s.sending ≡ u → Rests bytes (next_rule p s bytes room)
    by false u room h i = subst (Rests bytes) (sym (next_refused p s bytes room h)) (ended_rests p s 7 bytes)
    by true false room h i = subst (Rests bytes) (sym (next_outside p s bytes room h i)) (to_rests bytes p s room)
    by true true zero h i = subst (Rests bytes) (sym (next_unheard p s bytes h i)) (ended_rests p s (pick (eqb (length bytes) 0) 0 6) bytes)
    by true true (suc n) h i =
        let o = goes_on p s (suc n) in
        subst (Rests bytes) (sym (next_inside_lem p s bytes (suc n) h i (omega arith)))
        (behind_rests o.reply bytes (ended p o.state 0 bytes) (ended_rests p o.state 0 bytes))

-- with a list: the run, or refused for it
pick_rests : (t : Bool) (p : List ℕ) (s : State) (bytes : List ℕ) (r : Ran) → Rests bytes r → Rests bytes (pick t r (ended p s 7 bytes))
pick_rests true p s bytes r e = e
pick_rests false p s bytes r e = refl

run_rows_rests : (p l : List ℕ) (s : State) (bytes : List ℕ) (room : ℕ) → Rests bytes (run_rows_rule p l s bytes room)
unfolding run_rows_rule
run_rows_rests p l s bytes room = pick_rests (agrees l p s) p s bytes (run_rule p s bytes room) (run_rests p s bytes room)

next_rows_rests : (p l : List ℕ) (s : State) (bytes : List ℕ) (room : ℕ) → Rests bytes (next_rows_rule p l s bytes room)
unfolding next_rows_rule
next_rows_rests p l s bytes room = pick_rests (suits l p s) p s bytes (next_rule p s bytes room) (next_rests p s bytes room)

step_rests : (o : Outcome) (b : ℕ) → drop (pick o.taken 1 0) (b ∷ []) ≡ pick o.taken [] (b ∷ [])
step_rests o b = by o.taken
  where
    by : (t : Bool) → drop (pick t 1 0) (b ∷ []) ≡ pick t [] (b ∷ [])
    by true = refl
    by false = refl

pub handed_back_lem : (x : Session) (store : List ℕ) → HandedBack x store
unfolding session_rule row_call_rule call_rule of_step of_run of_press host_bytes
handed_back_lem x store = record {
  step = λ b room. step_rests (step_rule x.page x.state b room) b;
  run = λ bytes room. run_rests x.page x.state bytes room;
  list_step = λ b room. step_rests (step_rows_rule x.page x.rows x.state b room) b;
  list_run = λ bytes room. run_rows_rests x.page x.rows x.state bytes room;
  next = λ with bytes room. next_rows_rests x.page (handed with x) x.state bytes room;
  press = λ v room. drop-nil (length (press_rule x.page x.state v room).reply);
  rebuild = refl;
  save = refl;
  restore = λ n. refl;
}

-- ---- the terminal's calls alone

-- what a call of the terminal gives; the others give no such thing
heard : SessionGiven → Given
heard g = by g.told
  where
    by : Told → Given
    by (Heard r) = r
    by (Saved n m) = record { answer = 0; counts = []; reply = []; rest = []; state = g.state }
    by (Restored n) = record { answer = 0; counts = []; reply = []; rest = []; state = g.state }

record AsRows (cs : List RowCall) (x : Session) (store : List ℕ) : Type 0 where
  given : map heard (session_play (map Terminal cs) (record { terminal = x; store = store })).given ≡ (row_play cs x).given
  lists : map (λ (g : SessionGiven). g.rows) (session_play (map Terminal cs) (record { terminal = x; store = store })).given ≡ (row_play cs x).lists
  session : (session_play (map Terminal cs) (record { terminal = x; store = store })).kept.terminal ≡ (row_play cs x).session

as_rows : (cs : List RowCall) (x : Session) (store : List ℕ) → AsRows cs x store
unfolding session_play session_after session_rule row_play row_after heard
as_rows [] x store = record { given = refl; lists = refl; session = refl }
as_rows (c ∷ cs) x store =
    let r = row_call_rule x c in
    let k = as_rows cs (left r) store in
    record {
      given = ap (λ (gs : List Given). r.called.given ∷ gs) k.given;
      lists = ap (λ (ls : List (List ℕ)). r.rows ∷ ls) k.lists;
      session = k.session;
    }

-- and they complete what the calls without lists that they come to complete
any_append : (a b : List Call) (p : List ℕ) (s : State) → any_completed (a ++ b) p s ≡ false
    → (any_completed a p s ≡ false) × (any_completed b (play a p s).page (play a p s).state ≡ false)
unfolding any_completed play after
any_append [] b p s e = (refl, e)
any_append (c ∷ a) b p s e =
    let r = any_append a b (call_rule p s c).page (call_rule p s c).given.state (either_right (call_completes p s c) _ e) in
    (neither (call_completes p s c) _ (either_left (call_completes p s c) _ e) r.0, r.1)
  where
    neither : (t u : Bool) → t ≡ false → u ≡ false → either t u ≡ false
    neither t u e f = rw (e, f)

as_bare : (cs : List RowCall) (x : Session) (store : List ℕ) → any_completed (bare_calls cs x) x.page x.state ≡ false
    → session_completed (map Terminal cs) (record { terminal = x; store = store }) ≡ false
unfolding bare_calls session_completed call_completed session_rule
as_bare [] x store e = refl
as_bare (c ∷ cs) x store e =
    let y = left (row_call_rule x c) in
    let k = any_append (bare_call x c) (bare_calls cs y) x.page x.state e in
    let h = call_leaves x c in
    let rest : any_completed (bare_calls cs y) y.page y.state ≡ false =
    ap₂ (λ (p : List ℕ) (s : State). any_completed (bare_calls cs y) p s) h.page h.state ∙ k.1 in
    rw k.0 (as_bare cs y store rest)

pub carries_demand3 : CarriesNoninterference
carries_demand3 demand p q l s calls on conceals alike e =
    let x : Session = record { page = p; rows = l; state = s } in
    let y : Session = record { page = q; rows = l; state = s } in
    let r = demand p q l [] s (map Terminal calls) on conceals alike (as_bare calls x [] e) in
    let a = as_rows calls x [] in
    let b = as_rows calls y [] in
    record {
      calls = record {
        given = sym a.given ∙ (ap (map heard) r.given ∙ b.given);
        state = sym (ap (λ (z : Session). z.state) a.session) ∙ (r.state ∙ ap (λ (z : Session). z.state) b.session);
        pages = subst₂ (λ (z w : Session). KeptPages p q z.page w.page) a.session b.session r.pages;
      };
      lists = sym a.lists ∙ (ap (map (λ (g : SessionGiven). g.rows)) r.given ∙ b.lists);
      rows = sym (ap (λ (z : Session). z.rows) a.session) ∙ (r.rows ∙ ap (λ (z : Session). z.rows) b.session);
    }
