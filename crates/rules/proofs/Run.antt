-- The run is the repeated step.
--     run_repeats, run_resumes, run_unheard, run_refused     what a run gives, on a good page and state, inside a send, and on any other
--     run_waits, run_stop, run_go, run_done     one turn of a loop over the bytes
--     preceded_none, preceded_joined, run_append     a run in parts
-- Assumes nothing.
use mathlib.Core.Path.{◌≡◌, refl, sym, ap, ◌∙◌}
use mathlib.Core.Bool.{Bool, true, false, false≢true}
use mathlib.Core.List.{List, [], ◌∷◌, ◌++◌, append_assoc}
use Prim.Native.Nat.{ℕ, suc, ◌+◌, ◌-◌, ◌≤◌, ◌<◌}
use native.Mathlib.Nat.{zero-add, add_assoc, suc-add, sub-zero}
use native.Mathlib.Omega.{arith}
use lib.Dec.{leb, ltb, eqb, leb-suc-suc}
use lib.ListN.{length, length-append}
use borrow.Author.Tests.{eqb-true, eq-eqb, ne_eqb}
use Rattle.rules.specs.declared.State.{State}
use Rattle.rules.specs.Cell.{pick}
use Rattle.rules.specs.State.{sends}
use Rattle.rules.specs.Possible.{good}
use Rattle.rules.specs.Step.{Outcome, goes_on, step_rule}
use Rattle.rules.specs.Calls.{Ran, ended, refusal, joined, repeated, run_inside, run_rule}
use Rattle.rules.specs.Theorems.Steps.{steps, is_refusal, refusals, replies_of, last_page, last_state, Stopped, in_send_lem, no_room, Repeats}
use Rattle.rules.specs.Theorems.Steps.{RunRepeats, RunResumes, RunUnheard, RunRefused, preceded, continued}
use Rattle.rules.proofs.Kept.{keeps_good, goes_keeps, step_good}
use Rattle.rules.proofs.Bound.{reply_fits, step_full, goes_bounded}

-- ---- one turn

module _ (b : ℕ) (bs p : List ℕ) (s : State) (room : ℕ) where
  -- a send is under way: the run ends before the byte
  pub run_waits : sends s.sending ≡ true → repeated (b ∷ bs) p s room ≡ ended p s 0 (b ∷ bs)
  unfolding repeated
  run_waits u = rw u

  -- the byte answers 6: the run ends before it
  pub run_stop : sends s.sending ≡ false → (step_rule p s b room).answer ≡ 6 → repeated (b ∷ bs) p s room ≡ ended p s 6 (b ∷ bs)
  unfolding repeated
  run_stop u e = let f : eqb (step_rule p s b room).answer 6 ≡ true = eq-eqb _ 6 e in rw (u, f)

  -- any other answer: the run goes on
  pub run_go : sends s.sending ≡ false → eqb (step_rule p s b room).answer 6 ≡ false
      → repeated (b ∷ bs) p s room
      ≡ joined (step_rule p s b room)
      (repeated bs (step_rule p s b room).page (step_rule p s b room).state (room - length (step_rule p s b room).reply))
  unfolding repeated
  run_go u e = rw (u, e)

-- no byte is left
pub run_done : (p : List ℕ) (s : State) (room : ℕ) → repeated [] p s room ≡ ended p s 0 []
unfolding repeated
run_done p s room = refl

-- ---- what a run gives

pub goes_good : (p : List ℕ) (s : State) (room : ℕ) → good p s ≡ true → sends s.sending ≡ true → 0 < room → good p (goes_on p s room).state ≡ true
unfolding goes_on
goes_good p s room g u h = keeps_good (goes_keeps p s room g u h) g

-- the count of refused bytes takes the answers 1 to 4
refusal_is : (n : ℕ) → refusal n ≡ pick (is_refusal n) 1 0
refusal_is n = let e : ltb n 5 ≡ leb n 4 = leb-suc-suc n 4 in rw e

-- no byte, a send under way, a byte that answers 6, and any other byte before a run that is so
run_none : (p : List ℕ) (s : State) (room : ℕ) → Repeats p s [] room [] (ended p s 0 [])
unfolding refusals replies_of last_page last_state
run_none p s room = record {
  taken = refl;
  refused = refl;
  reply = refl;
  page = refl;
  state = refl;
  most = omega arith;
  rest = refl;
  whole = refl;
  all = λ e. refl;
  some = λ h. absurd (omega arith);
}

-- a run that ends before its first byte, with 0 or 6
run_first : (b : ℕ) (bs p : List ℕ) (s : State) (room n : ℕ) → Stopped (b ∷ bs) room (ended p s n (b ∷ bs))
    → Repeats p s (b ∷ bs) room [] (ended p s n (b ∷ bs))
unfolding refusals replies_of last_page last_state
run_first b bs p s room n x = record {
  taken = refl;
  refused = refl;
  reply = refl;
  page = refl;
  state = refl;
  most = omega arith;
  rest = refl;
  whole = refl;
  all = λ e. absurd (omega (arith, e));
  some = λ h. x;
}

module _ (b : ℕ) (bs p : List ℕ) (s : State) (room : ℕ) (o : Outcome) (l : List Outcome) (r : Ran) (fits : length o.reply ≤ room) where
  room_left : room - length (o.reply ++ r.reply) ≡ room - length o.reply - length r.reply
  room_left = omega (arith, length-append o.reply r.reply)

  stopped_next : Stopped bs (room - length o.reply) r → Stopped (b ∷ bs) room (joined o r)
  unfolding joined
  stopped_next (in_send_lem a u f) = in_send_lem a u (omega (arith, length-append o.reply r.reply, f))
  stopped_next (no_room a e) = no_room a (rw room_left e)

  run_next : Repeats o.page o.state bs (room - length o.reply) l r → Repeats p s (b ∷ bs) room (o ∷ l) (joined o r)
  unfolding refusals replies_of last_page last_state joined
  run_next x = record {
    taken = ap suc x.taken;
    refused = rw (refusal_is, x.refused);
    reply = rw x.reply;
    page = x.page;
    state = x.state;
    most = omega (arith, x.most);
    rest = x.rest;
    whole = ap (λ (t : List ℕ). b ∷ t) x.whole;
    all = λ e. x.all (omega (arith, e));
    some = λ h. stopped_next (x.some (omega (arith, h)));
  }

-- where a send is under way, no room is left
abbrev Spent : State → ℕ → Type 0
Spent s room = sends s.sending ≡ true → room ≡ 0

step_spent : (p : List ℕ) (s : State) (b room : ℕ) → good p s ≡ true → sends s.sending ≡ false
    → Spent (step_rule p s b room).state (room - length (step_rule p s b room).reply)
step_spent p s b room g u h = omega (arith, step_full p s b room g u h)

-- a byte before a run that is so, o being its step
run_either : (b : ℕ) (bs p : List ℕ) (s : State) (room : ℕ) (o : Outcome) (l : List Outcome) (r : Ran) → step_rule p s b room ≡ o
    → length o.reply ≤ room
    → Spent s room → (sends s.sending ≡ false → Repeats o.page o.state bs (room - length o.reply) l r)
    → (u t : Bool) → sends s.sending ≡ u → eqb o.answer 6 ≡ t
    → Repeats p s (b ∷ bs) room (pick u [] (pick t [] (o ∷ l))) (pick u (ended p s 0 (b ∷ bs)) (pick t (ended p s 6 (b ∷ bs)) (joined o r)))
run_either b bs p s room o l r is f z x true t e a = run_first b bs p s room 0 (in_send_lem refl e (sym (z e)))
run_either b bs p s room o l r is f z x false true e a = run_first b bs p s room 6 (no_room refl (rw (sub-zero, is) (eqb-true o.answer 6 a)))
run_either b bs p s room o l r is f z x false false e a = run_next b bs p s room o l r f (x e)

repeated_repeats : (bytes p : List ℕ) (s : State) (room : ℕ) → good p s ≡ true → Spent s room
    → Repeats p s bytes room (steps bytes p s room) (repeated bytes p s room)
unfolding steps repeated
repeated_repeats [] p s room g z = run_none p s room
repeated_repeats (b ∷ bs) p s room g z =
    let o = step_rule p s b room in
    run_either b bs p s room o _ _ refl (reply_fits p s b room) z
    (λ u. repeated_repeats bs o.page o.state (room - length o.reply) (step_good p s b room g) (step_spent p s b room g u))
    (sends s.sending) (eqb o.answer 6) refl refl

-- a run on a good page and state is the step repeated
pub run_repeats : RunRepeats
unfolding run_rule
run_repeats p s bytes room g u = rw (g, u) (repeated_repeats bytes p s room g (λ t. absurd (false≢true (sym u ∙ t))))

-- inside a send it goes on with that first; without room it answers 6, over no bytes 0, and nothing has changed
pub run_resumes : RunResumes
unfolding run_rule run_inside
run_resumes p s bytes room g u h =
    let o = goes_on p s room in
    rw (g, u, ne_eqb room 0 (omega arith))
    (record {
      bytes_run = repeated bytes p o.state (room - length o.reply);
      repeats = repeated_repeats bytes p o.state (room - length o.reply) (goes_good p s room g u h)
          (λ t. omega (arith, (goes_bounded p s g room u h).full t));
      whole = refl;
    })

pub run_unheard : RunUnheard
unfolding run_rule run_inside
run_unheard p s bytes g u = rw (g, u)

-- on any other it is refused
pub run_refused : RunRefused
unfolding run_rule
run_refused p s bytes room g =
    rw g (record { answer = refl; taken = refl; refused = refl; reply = refl; rest = refl; page = refl; state = refl })

-- ---- a run in parts

-- some bytes are not none
cons_nil : {x : ℕ} {l : List ℕ} → ◌≡◌ {A = List ℕ} (x ∷ l) [] → ⊥
cons_nil e = omega (arith, ap length e)

pub preceded_none : (r : Ran) → r ≡ preceded 0 0 [] r
preceded_none r = simp zero-add

pub preceded_joined : (i f : ℕ) (a : List ℕ) (o : Outcome) (r : Ran)
    → preceded i f a (joined o r) ≡ preceded (i + 1) (f + refusal o.answer) (a ++ o.reply) r
unfolding joined
preceded_joined i f a o r =
    let e : i + suc r.taken ≡ i + 1 + r.taken = omega arith in
    rw (e, add_assoc f, append_assoc)

continued_joined : (room : ℕ) (b : List ℕ) (o : Outcome) (r : Ran)
    → continued room b (joined o r) ≡ joined o (continued (room - length o.reply) b r)
unfolding joined
continued_joined room b o r =
    let left : room - length (o.reply ++ r.reply) ≡ room - length o.reply - length r.reply = omega
    (arith, length-append o.reply r.reply) in
    rw (left, append_assoc, add_assoc (refusal o.answer), suc-add r.taken)

-- a byte before a run for which the law holds
append_next : (u t : Bool) (x : ℕ) (a b p : List ℕ) (s : State) (room : ℕ) (o : Outcome) (r q : Ran)
    → (r.rest ≡ [] → q ≡ continued (room - length o.reply) b r)
    → (pick u (ended p s 0 (x ∷ a)) (pick t (ended p s 6 (x ∷ a)) (joined o r))).rest ≡ []
    → pick u (ended p s 0 (x ∷ a ++ b)) (pick t (ended p s 6 (x ∷ a ++ b)) (joined o q))
    ≡ continued room b (pick u (ended p s 0 (x ∷ a)) (pick t (ended p s 6 (x ∷ a)) (joined o r)))
append_next true t x a b p s room o r q h e = absurd (cons_nil e)
append_next false true x a b p s room o r q h e = absurd (cons_nil e)
append_next false false x a b p s room o r q h e = ap (joined o) (h (unfold joined in e)) ∙ sym (continued_joined room b o r)

-- a run over a ++ b of which all of a is taken is the run over a and then the run over b
pub run_append : (a b p : List ℕ) (s : State) (room : ℕ) → (repeated a p s room).rest ≡ []
    → repeated (a ++ b) p s room ≡ continued room b (repeated a p s room)
unfolding repeated
run_append [] b p s room e = rw sub-zero (preceded_none (repeated b p s room))
run_append (x ∷ a) b p s room e =
    let o = step_rule p s x room in
    append_next (sends s.sending) (eqb o.answer 6) x a b p s room o _ _ (run_append a b o.page o.state (room - length o.reply)) e
