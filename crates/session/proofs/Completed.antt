-- When a session completes one of the six.
--     characterised     both directions
--     unless_completed     the statement without the test
--     none_completed, from_bad     what completes nothing
-- Assumes nothing.
use mathlib.Core.Path.{◌≡◌, refl, sym, ap, ap₂, ◌∙◌}
use mathlib.Core.Bool.{Bool, true, false, false≢true}
use mathlib.Core.List.{List, [], ◌∷◌, ◌++◌}
use mathlib.Core.Logic.{◌⊎◌, inl, inr}
use Prim.Native.Nat.{ℕ}
use lib.Dec.{eqb}
use lib.ListN.{length}
use Rattle.rules.specs.declared.Core.{Core}
use Rattle.rules.specs.declared.State.{State}
use Rattle.rules.specs.Cell.{pick, both, either}
use Rattle.rules.specs.State.{page_length}
use Rattle.rules.specs.Possible.{possible, good}
use Rattle.rules.specs.Step.{step_rule}
use Rattle.rules.specs.Calls.{Call, Step, Run, Press, run_rule, of_step, of_run, of_press, call_rule, after, play}
use Rattle.rules.specs.RowList.{agrees}
use Rattle.rules.specs.RowCalls.{suits, Session, RowCall, Bare, ListStep, ListRun, Next, Rebuild, handed, run_of, bare_call}
use Rattle.rules.specs.Theorems.Noninterference.{call_completes, any_completed}
use Rattle.rules.specs.Theorems.Completed.{Completing, CompletedInRun, CompletedIn, in_step, in_run}
use Rattle.rules.proofs.Completed as Rules
use Rattle.rules.proofs.Noninterference.{either_left, either_right}
use Rattle.rules.proofs.RowSteps.{call_leaves}
use Rattle.saved.specs.Calls.{RestoreOutcome, restore_rule}
use Rattle.saved.proofs.SavedSetups.{saved_setups}
use Rattle.session.specs.Sessions.{SessionCall, Terminal, Save, Restore, Kept, start, session_rule, session_after, session_play, call_completed}
use Rattle.session.specs.Sessions.{session_completed}
use Rattle.session.specs.Completed.{CompletedBy, bare, list_step, list_run, next, Completed, Characterised, UnlessCompleted, NoneCompleted}
use Rattle.session.specs.Completed.{FromBad}
use Rattle.session.proofs.Sessions.{session_noninterference}

either_parts : (a b : Bool) → either a b ≡ true → (a ≡ true) ⊎ (b ≡ true)
either_parts true b e = inl refl
either_parts false b e = inr e

either_second : (a b : Bool) → b ≡ true → either a b ≡ true
either_second true b e = refl
either_second false b e = e

neither : (a b : Bool) → a ≡ false → b ≡ false → either a b ≡ false
neither a b e f = rw (e, f)

-- ---- one call

module _ (p : List ℕ) (s : State) where
  one_completed : (c : Call) → any_completed (c ∷ []) p s ≡ true → CompletedIn p s c
  unfolding any_completed
  one_completed c e = Rules.call_completed_lem p s c (by (call_completes p s c) e)
    where
      by : (t : Bool) → either t false ≡ true → t ≡ true
      by true e = refl
      by false e = e

  one_counted : (c : Call) → CompletedIn p s c → any_completed (c ∷ []) p s ≡ true
  unfolding play
  one_counted c k = (Rules.characterised).completed_counted (c ∷ []) p s record { earlier = []; call = c; later = []; whole = refl; inside = k }

  none_counted : any_completed [] p s ≡ true → ⊥
  unfolding any_completed
  none_counted e = false≢true e

  in_the_step : {b room : ℕ} → CompletedIn p s (Step b room) → Completing p s b room
  in_the_step (in_step _ _ _ _ k) = k

  in_the_run : {bytes : List ℕ} {room : ℕ} → CompletedIn p s (Run bytes room) → CompletedInRun p s bytes room
  in_the_run (in_run _ _ _ _ k) = k

-- a call that is made, or refused for its list
taken_or_not : (t : Bool) (c : Call) (p : List ℕ) (s : State) → any_completed (pick t (c ∷ []) []) p s ≡ true → (t ≡ true) × CompletedIn p s c
taken_or_not true c p s e = (refl, one_completed p s c e)
taken_or_not false c p s e = absurd (none_counted p s e)

taken_counted : (t : Bool) (c : Call) (p : List ℕ) (s : State) → t ≡ true → CompletedIn p s c → any_completed (pick t (c ∷ []) []) p s ≡ true
taken_counted t c p s e k = rw e (one_counted p s c k)

row_completed : (x : Session) (c : RowCall) → any_completed (bare_call x c) x.page x.state ≡ true → CompletedBy x c
unfolding bare_call
row_completed x (Bare c) e = bare (one_completed x.page x.state c e)
row_completed x (ListStep b room) e =
    let k = taken_or_not (agrees x.rows x.page x.state) (Step b room) x.page x.state e in
    list_step k.0 (in_the_step x.page x.state k.1)
row_completed x (ListRun bytes room) e =
    let k = taken_or_not (agrees x.rows x.page x.state) (Run bytes room) x.page x.state e in
    list_run k.0 (in_the_run x.page x.state k.1)
row_completed x (Next with bytes room) e =
    let k = taken_or_not (suits (handed with x) x.page x.state) (run_of x bytes room) x.page x.state e in
    next k.0 (in_the_run x.page x.state k.1)
row_completed x Rebuild e = absurd (none_counted x.page x.state e)

row_counted : (x : Session) (c : RowCall) → CompletedBy x c → any_completed (bare_call x c) x.page x.state ≡ true
unfolding bare_call
row_counted x (Bare c) (bare k) = one_counted x.page x.state c k
row_counted x (ListStep b room) (list_step e k) = taken_counted _ (Step b room) x.page x.state e (in_step x.page x.state b room k)
row_counted x (ListRun bytes room) (list_run e k) = taken_counted _ (Run bytes room) x.page x.state e (in_run x.page x.state bytes room k)
row_counted x (Next with bytes room) (next e k) =
    taken_counted _ (run_of x bytes room) x.page x.state e (in_run x.page x.state _ room k)
row_counted x Rebuild k = elim k [ ]

-- ---- the session

first_completed : (c : SessionCall) (cs : List SessionCall) (x : Kept) → call_completed x c ≡ true → Completed (c ∷ cs) x
unfolding call_completed session_play
first_completed (Terminal c) cs x e = record { earlier = []; call = c; later = cs; whole = refl; inside = row_completed x.terminal c e }
first_completed Save cs x e = absurd (false≢true e)
first_completed (Restore n) cs x e = absurd (false≢true e)

later_completed : (c : SessionCall) (cs : List SessionCall) (x : Kept) → Completed cs (session_rule x c).kept → Completed (c ∷ cs) x
unfolding session_play session_after
later_completed c cs x k = record {
  earlier = c ∷ k.earlier;
  call = k.call;
  later = k.later;
  whole = ap (λ (l : List SessionCall). c ∷ l) k.whole;
  inside = k.inside;
}

session_completed_lem : (calls : List SessionCall) (x : Kept) → session_completed calls x ≡ true → Completed calls x
unfolding session_completed
session_completed_lem [] x e = absurd (false≢true e)
session_completed_lem (c ∷ cs) x e = by (either_parts (call_completed x c) _ e) (session_completed_lem cs (session_rule x c).kept)
  where
    by : (call_completed x c ≡ true) ⊎ (session_completed cs (session_rule x c).kept ≡ true)
        → (session_completed cs (session_rule x c).kept ≡ true → Completed cs (session_rule x c).kept) → Completed (c ∷ cs) x
    by (inl h) ih = first_completed c cs x h
    by (inr h) ih = later_completed c cs x (ih h)

session_counted : (earlier : List SessionCall) (c : RowCall) (later : List SessionCall) (x : Kept)
    → CompletedBy (session_play earlier x).kept.terminal c
    → session_completed (earlier ++ (Terminal c ∷ later)) x ≡ true
unfolding session_completed session_play session_after call_completed
session_counted [] c later x k = rw (row_counted x.terminal c k)
session_counted (a ∷ earlier) c later x k = either_second (call_completed x a) _ (session_counted earlier c later (session_rule x a).kept k)

pub characterised : Characterised
characterised = record {
  counted_completed = session_completed_lem;
  completed_counted = λ calls x k. rw k.whole (session_counted k.earlier k.call k.later x k.inside);
}

pub unless_completed : UnlessCompleted
unless_completed p q l store s calls on conceals alike none =
    session_noninterference p q l store s calls on conceals alike (Rules.not_true _ (λ e. none (session_completed_lem calls (start p l s store) e)))

-- ---- what completes nothing

one_alone : (c : SessionCall) (x : Kept) → call_completed x c ≡ false → session_completed (c ∷ []) x ≡ false
unfolding session_completed
one_alone c x e = rw e

refused_alone : (t : Bool) (c : Call) (p : List ℕ) (s : State) → t ≡ false → any_completed (pick t (c ∷ []) []) p s ≡ false
unfolding any_completed
refused_alone t c p s e = rw e

together : (calls more : List SessionCall) (x : Kept) → session_completed calls x ≡ false → session_completed more (session_play calls x).kept ≡ false
    → session_completed (calls ++ more) x ≡ false
unfolding session_completed session_play session_after
together [] more x e f = f
together (c ∷ calls) more x e f =
    neither (call_completed x c) _ (either_left (call_completed x c) _ e)
    (together calls more (session_rule x c).kept (either_right (call_completed x c) _ e) f)

-- a bad page and state stay as they are, through calls of the terminal
bad_call : (p : List ℕ) (s : State) (c : Call) → good p s ≡ false → ((call_rule p s c).page ≡ p) × ((call_rule p s c).given.state ≡ s)
unfolding call_rule of_step of_run of_press step_rule run_rule
bad_call p s (Step b room) g = rw g (refl, refl)
bad_call p s (Run bytes room) g = rw g (refl, refl)
bad_call p s (Press v room) g = (refl, refl)

bad_play : (cs : List Call) (p : List ℕ) (s : State) → good p s ≡ false → ((play cs p s).page ≡ p) × ((play cs p s).state ≡ s)
unfolding play after
bad_play [] p s g = (refl, refl)
bad_play (c ∷ cs) p s g =
    let k = bad_call p s c g in
    let h = bad_play cs p s g in (
      ap₂ (λ (x : List ℕ) (t : State). (play cs x t).page) k.0 k.1 ∙ h.0,
      ap₂ (λ (x : List ℕ) (t : State). (play cs x t).state) k.0 k.1
          ∙ h.1,
    )

bad_any : (cs : List Call) (p : List ℕ) (s : State) → good p s ≡ false → any_completed cs p s ≡ false
unfolding any_completed
bad_any [] p s g = refl
bad_any (c ∷ cs) p s g =
    let k = bad_call p s c g in
    neither (call_completes p s c) _ (either_left (call_completes p s c) false ((Rules.none_completed).bad p s c g))
    (ap₂ (λ (x : List ℕ) (t : State). any_completed cs x t) k.0 k.1 ∙ bad_any cs p s g)

both_none : (a b : Bool) → a ≡ false → both a b ≡ false
both_none a b e = rw e

first_none : (a b : Bool) → both a b ≡ false → b ≡ true → a ≡ false
first_none true b e f = sym f ∙ e
first_none false b e f = refl

-- and through a restore, which leaves the core: the page is as wrong as it was, or the state is impossible and nothing is restored
restore_bad : (p store : List ℕ) (s : State) (n : ℕ) → good p s ≡ false → good p (restore_rule s store n).state ≡ false
unfolding good
restore_bad p store s n g = by (possible s) refl
  where
    by : (t : Bool) → possible s ≡ t → good p (restore_rule s store n).state ≡ false
    by true e =
        both_none _ _
        (ap (λ (c : Core). eqb (length p) (page_length c.screen)) (saved_setups.of_restore s store n).leaves.core
        ∙ first_none (eqb (length p) (page_length s.core.screen)) (possible s) g e)
    by false e = ap (λ (o : RestoreOutcome). good p o.state) ((saved_setups.of_restore s store n).bad_state e) ∙ g

stays_bad : (x : Kept) (c : SessionCall) → good x.terminal.page x.terminal.state ≡ false
    → good (session_rule x c).kept.terminal.page (session_rule x c).kept.terminal.state ≡ false
unfolding session_rule
stays_bad x (Terminal c) g =
    let k = call_leaves x.terminal c in
    let h = bad_play (bare_call x.terminal c) x.terminal.page x.terminal.state g in
    ap₂ good (k.page ∙ h.0) (k.state ∙ h.1) ∙ g
stays_bad x Save g = g
stays_bad x (Restore n) g = restore_bad x.terminal.page x.store x.terminal.state n g

bad_called : (x : Kept) (c : SessionCall) → good x.terminal.page x.terminal.state ≡ false → call_completed x c ≡ false
unfolding call_completed
bad_called x (Terminal c) g = bad_any (bare_call x.terminal c) x.terminal.page x.terminal.state g
bad_called x Save g = refl
bad_called x (Restore n) g = refl

bad_session : (calls : List SessionCall) (x : Kept) → good x.terminal.page x.terminal.state ≡ false → session_completed calls x ≡ false
unfolding session_completed
bad_session [] x g = refl
bad_session (c ∷ calls) x g = neither (call_completed x c) _ (bad_called x c g) (bad_session calls (session_rule x c).kept (stays_bad x c g))

pub none_completed : NoneCompleted
unfolding session_completed call_completed bare_call any_completed
none_completed = record {
  empty = λ x. refl;
  save = λ x. refl;
  restore = λ x n. refl;
  press = λ x v room. one_alone (Terminal (Bare (Press v room))) x ((Rules.none_completed).press x.terminal.page x.terminal.state v room);
  rebuild = λ x. refl;
  step_refused = λ p l store s b room e. one_alone (Terminal (ListStep b room)) (start p l s store)
      (refused_alone (agrees l p s) (Step b room) p s e);
  run_refused = λ p l store s bytes room e. one_alone (Terminal (ListRun bytes room)) (start p l s store)
      (refused_alone (agrees l p s) (Run bytes room) p s e);
  next_refused = λ p l store s bytes room e.
      one_alone (Terminal (Next true bytes room)) (start p l s store)
      (refused_alone (suits l p s) (run_of (start p l s store).terminal bytes room) p s e);
  bad = λ p l store s calls g. bad_session calls (start p l s store) g;
  together = together;
}

pub from_bad : FromBad
from_bad p q l store s calls on conceals alike g = session_noninterference p q l store s calls on conceals alike
    (bad_session calls (start p l s store) g)
