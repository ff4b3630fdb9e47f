-- `next` is a run up to the first event.
--     next_tells     what a caller relies on
--     to_done, to_event_lem, to_go, event_six, event_taken     one turn of a loop over the bytes
--     next_run_lem     what it leaves is what a run over the bytes that it takes leaves
-- Assumes nothing.
use mathlib.Core.Path.{◌≡◌, refl, sym, ap, ap₂, subst, ◌∙◌}
use mathlib.Core.Bool.{Bool, true, false, false≢true, not}
use mathlib.Core.Logic.{◌⊎◌, inl, inr}
use mathlib.Core.List.{List, [], ◌∷◌, ◌++◌, append-nil, append_assoc}
use Prim.Native.Nat.{ℕ, zero, suc, ◌+◌, ◌-◌, ◌<◌, ◌≤◌}
use native.Mathlib.Nat.{sub-zero, zero-add, add-zero, add_assoc}
use native.Mathlib.Omega.{arith}
use lib.Dec.{ltb, eqb}
use lib.ListN.{length, get_or, take, length-append}
use borrow.Author.Tests.{eqb-true, eqb-false, eq-eqb, ne_eqb, lt-ltb, le-ltb}
use Rattle.rules.specs.declared.State.{State}
use Rattle.rules.specs.declared.Sending.{Sending}
use Rattle.rules.specs.Cell.{pick, both}
use Rattle.rules.specs.State.{sends, with_sending}
use Rattle.rules.specs.Possible.{good}
use Rattle.rules.specs.Send.{command_of, sent_from}
use Rattle.rules.specs.Step.{Outcome, goes_on, step_inside, step_rule}
use Rattle.rules.specs.Calls.{Ran, ended, refusal, joined, repeated, behind, run_rule}
use Rattle.rules.specs.Theorems.Steps.{preceded}
use Rattle.rules.specs.Theorems.Narrow.{sum, Same, Over}
use Rattle.rules.specs.Next.{is_event, tells, at_event, to_event, next_inside, next_rule, reply_command}
use Rattle.rules.specs.Theorems.NextTells.{fed_next, Answers, NextTells}
use Rattle.rules.proofs.Kept.{step_good, run_good}
use Rattle.rules.proofs.Bound.{step_full, step_begins, goes_bounded}
use Rattle.rules.proofs.Left.{step_left, step_good_most}
use Rattle.rules.proofs.Run.{run_stop, run_go, run_done, run_unheard, run_refused, goes_good}
use Rattle.rules.proofs.Narrow.{then_run, same_joined, same_behind, same_ended, same_trans, same_refl, same_next, waits, outside, inside_room}
use Rattle.rules.proofs.Narrow.{still, split_run, over_next, fed_enough, begins, Byte, same, due, byte_is}

-- no event: 0, and no reply
pub no_event : (n r : ℕ) → is_event n r ≡ false → (n ≡ 0) × (r ≡ 0)
no_event n r e = by (eqb n 0) (eqb r 0) refl refl e
  where
    by : (t u : Bool) → eqb n 0 ≡ t → eqb r 0 ≡ u → not (both t u) ≡ false → (n ≡ 0) × (r ≡ 0)
    by true true a b e = (eqb-true n 0 a, eqb-true r 0 b)
    by true false a b e = absurd (false≢true (sym e))
    by false u a b e = absurd (false≢true (sym e))

-- ---- one turn

-- no byte is left
pub to_done : (p : List ℕ) (s : State) (room : ℕ) → to_event [] p s room ≡ ended p s 0 []
unfolding to_event
to_done p s room = refl

module _ (b : ℕ) (bs p : List ℕ) (s : State) (room : ℕ) where
  abbrev o : Outcome
  o = step_rule p s b room

  -- an event: it ends there
  pub to_event_lem : tells o ≡ true → to_event (b ∷ bs) p s room ≡ at_event o b bs
  unfolding to_event
  to_event_lem e = rw e

  -- none: it goes on
  pub to_go : tells o ≡ false → to_event (b ∷ bs) p s room ≡ joined o (to_event bs o.page o.state (room - length o.reply))
  unfolding to_event
  to_go e = let z : room - length o.reply ≡ room = omega (arith, (no_event o.answer (length o.reply) e).1) in rw (e, z)

  -- the byte is taken unless it answers 6
  module _ (g : good p s ≡ true) (u : sends s.sending ≡ false) where
    taken_is : o.taken ≡ ltb o.answer 6
    unfolding step_rule
    taken_is = rw (g, u)

    pub event_six : o.answer ≡ 6 → at_event o b bs ≡ ended p s 6 (b ∷ bs)
    unfolding at_event
    event_six e =
        let l = step_left p s b room (λ z. omega (arith, z, e)) in
        let t : o.taken ≡ false = taken_is ∙ le-ltb o.answer 6 (omega arith) in
        let k : o.state ≡ s = l.state ∙ rw e in
        rw (t, e, k, l.page, l.reply)

    pub event_taken : eqb o.answer 6 ≡ false → at_event o b bs ≡ joined o (ended o.page o.state o.answer bs)
    unfolding at_event joined
    event_taken e =
        let t : o.taken ≡ true = taken_is ∙ lt-ltb o.answer 6 (omega (arith, eqb-false o.answer 6 e, step_good_most p s b room g u)) in
        rw (t, add-zero (refusal o.answer), append-nil o.reply)

    -- a byte that leaves a send under way is an event
    pub begun_tells : tells o ≡ false → sends o.state.sending ≡ false
    begun_tells e = by (sends o.state.sending) refl
      where
        by : (t : Bool) → sends o.state.sending ≡ t → t ≡ false
        by true h = absurd (omega (arith, step_begins p s b room g u h, (no_event o.answer (length o.reply) e).1))
        by false h = refl

-- ---- the run

-- a run outside a send, or without room inside one
rest_run : (bytes p : List ℕ) (s : State) (room : ℕ) → good p s ≡ true → (sends s.sending ≡ true → room ≡ 0)
    → Same (run_rule p s bytes room) (repeated bytes p s room)
rest_run bytes p s room g spent = by (sends s.sending) refl
  where
    by : (t : Bool) → sends s.sending ≡ t → Same (run_rule p s bytes room) (repeated bytes p s room)
    by true u = rw (spent u, waits bytes p s 0 u) (still bytes p s g u)
    by false u = rw (outside p s bytes room g u) (same_refl (repeated bytes p s room))

-- what a byte leaves of the room, and the run behind it
left_joined : (o : Outcome) (r : Ran) (room : ℕ) → room - length (joined o r).reply ≡ room - length o.reply - length r.reply
unfolding joined
left_joined o r room = omega (arith, length-append o.reply r.reply)

-- an event, and then the run over the bytes behind it
module _ (b : ℕ) (bs p : List ℕ) (s : State) (room : ℕ) (g : good p s ≡ true) (u : sends s.sending ≡ false) where
  event_first : (t : Bool) → eqb (step_rule p s b room).answer 6 ≡ t
      → let r = at_event (step_rule p s b room) b bs in Same (then_run r (room - length r.reply)) (repeated (b ∷ bs) p s room)
  event_first true e =
      rw (event_six b bs p s room g u (eqb-true _ 6 e), sub-zero)
      (rw (← (outside p s (b ∷ bs) room g u)) (same_ended p s 6 (b ∷ bs) room))
  event_first false e =
      let o = step_rule p s b room in
      let r = ended o.page o.state o.answer bs in
      let left = room - length o.reply in
      rw (event_taken b bs p s room g u e, run_go b bs p s room u e, left_joined o r room, sub-zero)
      (same_joined o r _ left
      (same_trans (same_ended o.page o.state o.answer bs left)
      (rest_run bs o.page o.state left (step_good p s b room g) (λ h. omega (arith, step_full p s b room g u h)))))

-- the steps up to the first event, and then the run over the rest
event_run : (bytes p : List ℕ) (s : State) (room : ℕ) → good p s ≡ true → sends s.sending ≡ false
    → let r = to_event bytes p s room in Same (then_run r (room - length r.reply)) (repeated bytes p s room)
event_run [] p s room g u = rw (to_done p s room, sub-zero) (rw (← (outside p s [] room g u)) (same_ended p s 0 [] room))
event_run (b ∷ bs) p s room g u =
    let o = step_rule p s b room in
    by (tells o) refl (event_run bs o.page o.state (room - length o.reply) (step_good p s b room g))
  where
    by : (t : Bool) → tells (step_rule p s b room) ≡ t
        → (sends (step_rule p s b room).state.sending ≡ false
        → let o = step_rule p s b room in let left = room - length o.reply in let r = to_event bs o.page o.state left in
        Same (then_run r (left - length r.reply)) (repeated bs o.page o.state left))
        → let r = to_event (b ∷ bs) p s room in Same (then_run r (room - length r.reply)) (repeated (b ∷ bs) p s room)
    by true e ih = rw (to_event_lem b bs p s room e) (event_first b bs p s room g u (eqb (step_rule p s b room).answer 6) refl)
    by false e ih =
        let o = step_rule p s b room in
        let left = room - length o.reply in
        let six : eqb o.answer 6 ≡ false = ne_eqb o.answer 6 (λ z. omega (arith, z, (no_event o.answer (length o.reply) e).0)) in
        rw (to_go b bs p s room e, run_go b bs p s room u six, left_joined o (to_event bs o.page o.state left) room)
        (same_joined o (to_event bs o.page o.state left) _ _ (ih (begun_tells b bs p s room g u e)))

module _ (p : List ℕ) (s : State) (bytes : List ℕ) (room : ℕ) (g : good p s ≡ true) where
  pub next_outside : sends s.sending ≡ false → next_rule p s bytes room ≡ to_event bytes p s room
  unfolding next_rule
  next_outside u = rw (g, u)

  pub next_inside_lem : sends s.sending ≡ true → 0 < room
      → next_rule p s bytes room ≡ behind (goes_on p s room).reply (ended p (goes_on p s room).state 0 bytes)
  unfolding next_rule next_inside
  next_inside_lem u h = rw (g, u, ne_eqb room 0 (omega arith))

pub next_unheard : (p : List ℕ) (s : State) (bytes : List ℕ) → good p s ≡ true → sends s.sending ≡ true
    → next_rule p s bytes 0 ≡ ended p s (pick (eqb (length bytes) 0) 0 6) bytes
unfolding next_rule next_inside
next_unheard p s bytes g u = rw (g, u)

pub next_refused : (p : List ℕ) (s : State) (bytes : List ℕ) (room : ℕ) → good p s ≡ false → next_rule p s bytes room ≡ ended p s 7 bytes
unfolding next_rule
next_refused p s bytes room g = rw g

left_behind : (a p : List ℕ) (s : State) (rest : List ℕ) (room : ℕ) → room - length (behind a (ended p s 0 rest)).reply ≡ room - length a
unfolding behind
left_behind a p s rest room = ap (λ (l : List ℕ). room - length l) (append-nil a)

inside_run : (p : List ℕ) (s : State) (bytes : List ℕ) (room : ℕ) → good p s ≡ true → sends s.sending ≡ true
    → let r = next_rule p s bytes room in Same (then_run r (room - length r.reply)) (run_rule p s bytes room)
inside_run p s bytes zero g u = rw (next_unheard p s bytes g u) (same_ended p s (pick (eqb (length bytes) 0) 0 6) bytes 0)
inside_run p s bytes (suc n) g u =
    let h : 0 < suc n = omega arith in
    let o = goes_on p s (suc n) in
    let left = suc n - length o.reply in
    rw (next_inside_lem p s bytes (suc n) g u h, inside_room p s bytes (suc n) g u h)
    (behind_run o.reply o.state (suc n)
    (rest_run bytes p o.state left (goes_good p s (suc n) g u h) (λ t. omega (arith, (goes_bounded p s g (suc n) u h).full t))))
  where
    behind_run : (a : List ℕ) (t : State) (room : ℕ) → Same (run_rule p t bytes (room - length a)) (repeated bytes p t (room - length a))
        → let r = behind a (ended p t 0 bytes) in Same (then_run r (room - length r.reply)) (behind a (repeated bytes p t (room - length a)))
    behind_run a t room x =
        rw (left_behind a p t bytes room)
        (same_behind a (ended p t 0 bytes) _ (room - length a) (same_trans (same_ended p t 0 bytes (room - length a)) x))

-- next, and then the run over the rest with what is left of the room, is the run
pub next_first : (p : List ℕ) (s : State) (bytes : List ℕ) (room : ℕ) → good p s ≡ true
    → let r = next_rule p s bytes room in Same (then_run r (room - length r.reply)) (run_rule p s bytes room)
next_first p s bytes room g = by (sends s.sending) refl
  where
    by : (t : Bool) → sends s.sending ≡ t
        → let r = next_rule p s bytes room in Same (then_run r (room - length r.reply)) (run_rule p s bytes room)
    by true u = inside_run p s bytes room g u
    by false u = rw (next_outside p s bytes room g u, outside p s bytes room g u) (event_run bytes p s room g u)

-- ---- what it leaves

module _ (b : ℕ) (bs p : List ℕ) (s : State) (room : ℕ) (g : good p s ≡ true) (u : sends s.sending ≡ false) where
  abbrev Leaves : Ran → List ℕ → Type 0
  Leaves r bytes = (r.page ≡ (repeated bytes p s room).page) × (r.state ≡ (repeated bytes p s room).state)

  event_leaves : (t : Bool) → eqb (step_rule p s b room).answer 6 ≡ t
      → let r = at_event (step_rule p s b room) b bs in Leaves r (take r.taken (b ∷ bs))
  unfolding joined
  event_leaves true e = rw (event_six b bs p s room g u (eqb-true _ 6 e), run_done p s room) (refl, refl)
  event_leaves false e =
      let o = step_rule p s b room in
      rw (event_taken b bs p s room g u e, run_go b [] p s room u e, run_done o.page o.state (room - length o.reply)) (refl, refl)

  go_leaves : tells (step_rule p s b room) ≡ false
      → let o = step_rule p s b room in let left = room - length o.reply in let r = to_event bs o.page o.state left in
      let q = repeated (take r.taken bs) o.page o.state left in (r.page ≡ q.page) × (r.state ≡ q.state)
      → Leaves (to_event (b ∷ bs) p s room) (take (to_event (b ∷ bs) p s room).taken (b ∷ bs))
  unfolding joined
  go_leaves e x =
      let o = step_rule p s b room in
      let six : eqb o.answer 6 ≡ false = ne_eqb o.answer 6 (λ z. omega (arith, z, (no_event o.answer (length o.reply) e).0)) in
      rw (to_go b bs p s room e, run_go b (take (to_event bs o.page o.state (room - length o.reply)).taken bs) p s room u six) x

to_leaves : (bytes p : List ℕ) (s : State) (room : ℕ) → good p s ≡ true → sends s.sending ≡ false
    → let r = to_event bytes p s room in let q = repeated (take r.taken bytes) p s room in (r.page ≡ q.page) × (r.state ≡ q.state)
to_leaves [] p s room g u = rw (to_done p s room, run_done p s room) (refl, refl)
to_leaves (b ∷ bs) p s room g u =
    let o = step_rule p s b room in
    by (tells o) refl (to_leaves bs o.page o.state (room - length o.reply) (step_good p s b room g))
  where
    by : (t : Bool) → tells (step_rule p s b room) ≡ t
        → (sends (step_rule p s b room).state.sending ≡ false
        → let o = step_rule p s b room in let left = room - length o.reply in let r = to_event bs o.page o.state left in
        let q = repeated (take r.taken bs) o.page o.state left in (r.page ≡ q.page) × (r.state ≡ q.state))
        → let r = to_event (b ∷ bs) p s room in let q = repeated (take r.taken (b ∷ bs)) p s room in (r.page ≡ q.page) × (r.state ≡ q.state)
    by true e ih = rw (to_event_lem b bs p s room e) (event_leaves b bs p s room g u (eqb (step_rule p s b room).answer 6) refl)
    by false e ih = go_leaves b bs p s room g u e (ih (begun_tells b bs p s room g u e))

sends_on : (p : List ℕ) (s : State) (bytes : List ℕ) (room : ℕ) → good p s ≡ true → sends s.sending ≡ true → 0 < room
    → let r = next_rule p s bytes room in let q = run_rule p s (take r.taken bytes) room in (r.page ≡ q.page) × (r.state ≡ q.state)
unfolding behind
sends_on p s bytes room g u h =
    let o = goes_on p s room in
    rw (next_inside_lem p s bytes room g u h, inside_room p s [] room g u h, run_done p o.state (room - length o.reply)) (refl, refl)

-- a run over the bytes that it takes leaves the same page and state
pub next_run_lem : (p : List ℕ) (s : State) (bytes : List ℕ) (room : ℕ)
    → let r = next_rule p s bytes room in let q = run_rule p s (take r.taken bytes) room in (r.page ≡ q.page) × (r.state ≡ q.state)
next_run_lem p s bytes room = by (good p s) (sends s.sending) refl refl
  where
    inside : (n : ℕ) → good p s ≡ true → sends s.sending ≡ true
        → let r = next_rule p s bytes n in let q = run_rule p s (take r.taken bytes) n in (r.page ≡ q.page) × (r.state ≡ q.state)
    inside zero g u = rw (next_unheard p s bytes g u, run_unheard p s [] g u) (refl, refl)
    inside (suc n) g u = sends_on p s bytes (suc n) g u (omega arith)

    by : (t v : Bool) → good p s ≡ t → sends s.sending ≡ v
        → let r = next_rule p s bytes room in let q = run_rule p s (take r.taken bytes) room in (r.page ≡ q.page) × (r.state ≡ q.state)
    by false v g u = rw (next_refused p s bytes room g) (let r = run_refused p s [] room g in (sym r.page, sym r.state))
    by true true g u = inside room g u
    by true false g u = rw (next_outside p s bytes room g u, outside p s (take (to_event bytes p s room).taken bytes) room g u)
        (to_leaves bytes p s room g u)

-- ---- a loop of it

same_sym : {a b : Ran} → Same a b → Same b a
same_sym x = record {
  taken = sym x.taken;
  refused = sym x.refused;
  reply = sym x.reply;
  rest = sym x.rest;
  page = sym x.page;
  state = sym x.state;
}

same_then : (a b : Ran) (d : ℕ) → Same a b → Same (then_run a d) (then_run b d)
same_then a b d x =
    rw (x.taken, x.refused, x.reply, x.rest, x.page, x.state) (same_refl (then_run b d))

-- a run through two rooms from where a run stands
then_more : (r : Ran) (a b : ℕ) → good r.page r.state ≡ true → Same (then_run (then_run r a) b) (then_run r (a + b))
then_more r a b g =
    let x = split_run r.rest r.page r.state g a b in
    record {
      taken = add_assoc r.taken _ _ ∙ ap (λ (n : ℕ). r.taken + n) x.taken;
      refused = add_assoc r.refused _ _ ∙ ap (λ (n : ℕ). r.refused + n) x.refused;
      reply = append_assoc r.reply _ _ ∙ ap (λ (l : List ℕ). r.reply ++ l) x.reply;
      rest = x.rest;
      page = x.page;
      state = x.state;
    }

pub next_good : (p : List ℕ) (s : State) (bytes : List ℕ) (room : ℕ) → good p s ≡ true
    → good (next_rule p s bytes room).page (next_rule p s bytes room).state ≡ true
next_good p s bytes room g =
    let r = next_run_lem p s bytes room in
    ap₂ good r.0 r.1 ∙ run_good p s (take (next_rule p s bytes room).taken bytes) room g

-- next, and then a run with a room of its own: the run with both
next_then : (p : List ℕ) (s : State) (bytes : List ℕ) (room d : ℕ) → good p s ≡ true
    → let r = next_rule p s bytes room in Same (then_run r (room - length r.reply + d)) (run_rule p s bytes (room + d))
next_then p s bytes room d g =
    let r = next_rule p s bytes room in
    let left = room - length r.reply in
    same_trans (same_sym (then_more r left d (next_good p s bytes room g)))
    (same_trans (same_then (then_run r left) (run_rule p s bytes room) d (next_first p s bytes room g)) (split_run bytes p s g room d))

heard_over : (rooms p : List ℕ) (s : State) (bytes : List ℕ) (room more : ℕ) → good p s ≡ true → Over (fed_next rooms p s bytes room)
    → Same (fed_next rooms p s bytes room) (run_rule p s bytes (room + sum rooms + more))
unfolding fed_next sum
heard_over [] p s bytes room more g o =
    let r = next_rule p s bytes room in
    rw (add-zero room) (same_trans (over_next r (room - length r.reply + more) (next_good p s bytes room g) o) (next_then p s bytes room more g))
heard_over (n ∷ rooms) p s bytes room more g o =
    let r = next_rule p s bytes room in
    let left = room - length r.reply in
    let d : left + (n + sum rooms + more) ≡ n + sum rooms + (more + left) = omega arith in
    let e : room + (n + sum rooms + more) ≡ room + (n + sum rooms) + more = omega arith in
    let ih = heard_over rooms r.page r.state r.rest n (more + left) (next_good p s bytes room g)
    (record { taken = o.taken; sent = o.sent }) in
    same_trans (same_next r _ _ ih) (rw (d, e) at (next_then p s bytes room (n + sum rooms + more) g))

-- ---- events

event_tells : (o : Outcome) (b : ℕ) (bs : List ℕ) → tells o ≡ true → let r = at_event o b bs in is_event r.answer (length r.reply) ≡ true
unfolding at_event
event_tells o b bs e = e

joined_tells : (o : Outcome) (r : Ran) → tells o ≡ false → (0 < length r.rest → is_event r.answer (length r.reply) ≡ true)
    → let q = joined o r in 0 < length q.rest → is_event q.answer (length q.reply) ≡ true
unfolding joined
joined_tells o r e h k =
    let n : length (o.reply ++ r.reply) ≡ length r.reply = omega
    (arith, length-append o.reply r.reply, (no_event o.answer (length o.reply) e).1) in
    rw n (h k)

event_alone : (p : List ℕ) (s : State) (b : ℕ) (bs : List ℕ) (room : ℕ) (t : Bool) → eqb (step_rule p s b room).answer 0 ≡ t
    → let r = at_event (step_rule p s b room) b bs in (r.answer ≡ 0) ⊎ (r.reply ≡ [])
unfolding at_event
event_alone p s b bs room true e = inl (eqb-true _ 0 e)
event_alone p s b bs room false e = inr (step_left p s b room (eqb-false _ 0 e)).reply

none_replied : (l : List ℕ) → length l ≡ 0 → l ≡ []
none_replied [] e = refl
none_replied (x ∷ l) e = absurd (omega (arith, e))

joined_alone : (o : Outcome) (r : Ran) → tells o ≡ false → (r.answer ≡ 0) ⊎ (r.reply ≡ []) → let q = joined o r in (q.answer ≡ 0) ⊎ (q.reply ≡ [])
unfolding joined
joined_alone o r e (inl a) = inl a
joined_alone o r e (inr n) = inr (rw (n, none_replied o.reply (no_event o.answer (length o.reply) e).1))

event_stops : (bytes p : List ℕ) (s : State) (room : ℕ) → let r = to_event bytes p s room in
    0 < length r.rest → is_event r.answer (length r.reply) ≡ true
event_stops [] p s room = λ h. absurd (omega (arith, h, ap (λ (r : Ran). length r.rest) (to_done p s room)))
event_stops (b ∷ bs) p s room =
    let o = step_rule p s b room in
    by (tells o) refl (event_stops bs o.page o.state (room - length o.reply))
  where
    by : (t : Bool) → tells (step_rule p s b room) ≡ t
        → (let o = step_rule p s b room in let r = to_event bs o.page o.state (room - length o.reply) in
        0 < length r.rest → is_event r.answer (length r.reply) ≡ true)
        → let r = to_event (b ∷ bs) p s room in 0 < length r.rest → is_event r.answer (length r.reply) ≡ true
    by true e ih = rw (to_event_lem b bs p s room e) (λ h. event_tells (step_rule p s b room) b bs e)
    by false e ih = rw (to_go b bs p s room e) (joined_tells (step_rule p s b room) _ e ih)

-- what is refused replies nothing
event_one : (bytes p : List ℕ) (s : State) (room : ℕ) → let r = to_event bytes p s room in (r.answer ≡ 0) ⊎ (r.reply ≡ [])
event_one [] p s room = rw (to_done p s room) (inl refl)
event_one (b ∷ bs) p s room =
    let o = step_rule p s b room in
    by (tells o) refl (event_one bs o.page o.state (room - length o.reply))
  where
    by : (t : Bool) → tells (step_rule p s b room) ≡ t
        → (let o = step_rule p s b room in let r = to_event bs o.page o.state (room - length o.reply) in (r.answer ≡ 0) ⊎ (r.reply ≡ []))
        → let r = to_event (b ∷ bs) p s room in (r.answer ≡ 0) ⊎ (r.reply ≡ [])
    by true e ih = rw (to_event_lem b bs p s room e) (event_alone p s b bs room (eqb (step_rule p s b room).answer 0) refl)
    by false e ih = rw (to_go b bs p s room e) (joined_alone (step_rule p s b room) _ e ih)

-- ---- replies

-- a reply of the byte at a place
record Told (bytes : List ℕ) (room : ℕ) (r : Ran) : Type 0 where
  place : ℕ
  taken : r.taken ≡ suc place
  sending : Sending
  under : sends sending ≡ true
  command : command_of sending ≡ get_or bytes place 0
  reply : r.reply ≡ sent_from r.page r.state.core sending room

begun_told : (p : List ℕ) (t : State) (b : ℕ) (bs : List ℕ) (room : ℕ) → (sends t.sending ≡ true) × (command_of t.sending ≡ b)
    → let o = begins p t room in Told (b ∷ bs) room (joined o (ended o.page o.state o.answer bs))
unfolding joined goes_on
begun_told p t b bs room m = record { place = 0; taken = refl; sending = t.sending; under = m.0; command = m.1; reply = append-nil _ }

module _ (b : ℕ) (bs p : List ℕ) (s : State) (g : good p s ≡ true) (u : sends s.sending ≡ false) where
  byte_told : (room : ℕ) → 0 < length (step_rule p s b room).reply → Byte p s b → Told (b ∷ bs) room (at_event (step_rule p s b room) b bs)
  byte_told room h (same o is r w a) = absurd (omega (arith, h, ap (λ (x : Outcome). length x.reply) (is room), ap length r))
  byte_told zero h (due t n i k m z is) = absurd (omega (arith, h, ap length (step_left p s b 0 (λ e. omega (arith, e, z))).reply))
  byte_told (suc j) h (due t n i k m z is) =
      let e = is (suc j) (omega arith) in
      let six : eqb (step_rule p s b (suc j)).answer 6 ≡ false = rw e refl in
      rw (event_taken b bs p s (suc j) g u six, e) (begun_told p t b bs (suc j) m)

  event_told : (room : ℕ) → 0 < length (at_event (step_rule p s b room) b bs).reply → Told (b ∷ bs) room (at_event (step_rule p s b room) b bs)
  event_told room h = byte_told room (replied room h) (byte_is p s g u b)
    where
      replied : (room : ℕ) → 0 < length (at_event (step_rule p s b room) b bs).reply → 0 < length (step_rule p s b room).reply
      replied room h = unfold at_event in h

joined_told : (o : Outcome) (r : Ran) (b : ℕ) (bs : List ℕ) (room : ℕ) → tells o ≡ false → Told bs room r → Told (b ∷ bs) room (joined o r)
unfolding joined
joined_told o r b bs room e x = record {
  place = suc x.place;
  taken = ap suc x.taken;
  sending = x.sending;
  under = x.under;
  command = x.command;
  reply = rw (none_replied o.reply (no_event o.answer (length o.reply) e).1) x.reply;
}

behind_reply : (o : Outcome) (r : Ran) → tells o ≡ false → 0 < length (joined o r).reply → 0 < length r.reply
unfolding joined
behind_reply o r e h = omega (arith, h, length-append o.reply r.reply, (no_event o.answer (length o.reply) e).1)

told_answers : (s : State) (bytes : List ℕ) (room : ℕ) (r : Ran) → sends s.sending ≡ false → 0 < length r.reply → Told bytes room r
    → Answers s bytes room r
unfolding reply_command
told_answers s bytes room r u h x = record {
  sending = x.sending;
  under = x.under;
  command = rw (ne_eqb (length r.reply) 0 (λ e. omega (arith, h, e)), u, x.taken) x.command;
  reply = x.reply;
}

-- ---- inside a send

goes_answers : (p : List ℕ) (s : State) (bytes : List ℕ) (room : ℕ) → sends s.sending ≡ true → 0 < length (goes_on p s room).reply
    → Answers s bytes room (behind (goes_on p s room).reply (ended p (goes_on p s room).state 0 bytes))
unfolding behind goes_on reply_command
goes_answers p s bytes room u h = record {
  sending = s.sending;
  under = u;
  command = rw (append-nil, ne_eqb (length (sent_from p s.core s.sending room)) 0 (λ e. omega (arith, h, e)), u);
  reply = append-nil _;
}

within_room : (p : List ℕ) (s : State) (bytes : List ℕ) (room : ℕ) → good p s ≡ true → sends s.sending ≡ true
    → 0 < length (next_rule p s bytes room).reply → Answers s bytes room (next_rule p s bytes room)
within_room p s bytes zero g u = rw (next_unheard p s bytes g u) (λ h. absurd (omega (arith, h)))
within_room p s bytes (suc n) g u =
    rw (next_inside_lem p s bytes (suc n) g u (omega arith)) (λ h. goes_answers p s bytes (suc n) u (goes_bounded p s g (suc n) u (omega arith)).some)

goes_stops : (p : List ℕ) (s : State) (a rest : List ℕ) → 0 < length a
    → let r = behind a (ended p s 0 rest) in is_event r.answer (length r.reply) ≡ true
unfolding behind
goes_stops p s a rest h = rw (append-nil, ne_eqb (length a) 0 (λ e. omega (arith, h, e)))

unheard_stops : (n : ℕ) → 0 < n → is_event (pick (eqb n 0) 0 6) 0 ≡ true
unheard_stops n h = rw (ne_eqb n 0 (λ e. omega (arith, h, e)))

inside_stops : (p : List ℕ) (s : State) (bytes : List ℕ) (room : ℕ) → good p s ≡ true → sends s.sending ≡ true → let r = next_rule p s bytes room in
    0 < length r.rest → is_event r.answer (length r.reply) ≡ true
inside_stops p s bytes zero g u = rw (next_unheard p s bytes g u) (unheard_stops (length bytes))
inside_stops p s bytes (suc n) g u =
    rw (next_inside_lem p s bytes (suc n) g u (omega arith))
    (λ h. goes_stops p (goes_on p s (suc n)).state (goes_on p s (suc n)).reply bytes (goes_bounded p s g (suc n) u (omega arith)).some)

behind_one : (p : List ℕ) (s : State) (a rest : List ℕ) → let r = behind a (ended p s 0 rest) in (r.answer ≡ 0) ⊎ (r.reply ≡ [])
unfolding behind
behind_one p s a rest = inl refl

inside_one : (p : List ℕ) (s : State) (bytes : List ℕ) (room : ℕ) → good p s ≡ true → sends s.sending ≡ true
    → let r = next_rule p s bytes room in (r.answer ≡ 0) ⊎ (r.reply ≡ [])
inside_one p s bytes zero g u = rw (next_unheard p s bytes g u) (inr refl)
inside_one p s bytes (suc n) g u = rw (next_inside_lem p s bytes (suc n) g u (omega arith))
    (behind_one p (goes_on p s (suc n)).state (goes_on p s (suc n)).reply bytes)

to_told : (bytes p : List ℕ) (s : State) (room : ℕ) → good p s ≡ true → sends s.sending ≡ false → 0 < length (to_event bytes p s room).reply
    → Told bytes room (to_event bytes p s room)
to_told [] p s room g u = λ h. absurd (omega (arith, h, ap (λ (r : Ran). length r.reply) (to_done p s room)))
to_told (b ∷ bs) p s room g u =
    let o = step_rule p s b room in
    by (tells o) refl (to_told bs o.page o.state room (step_good p s b room g))
  where
    by : (t : Bool) → tells (step_rule p s b room) ≡ t
        → (let o = step_rule p s b room in sends o.state.sending ≡ false → let r = to_event bs o.page o.state room in 0 < length r.reply
        → Told bs room r)
        → 0 < length (to_event (b ∷ bs) p s room).reply → Told (b ∷ bs) room (to_event (b ∷ bs) p s room)
    by true e ih = rw (to_event_lem b bs p s room e) (event_told b bs p s g u room)
    by false e ih =
        let o = step_rule p s b room in
        let z : room - length o.reply ≡ room = omega (arith, (no_event o.answer (length o.reply) e).1) in
        rw (to_go b bs p s room e, z)
        (λ h. joined_told o _ b bs room e (ih (begun_tells b bs p s room g u e) (behind_reply o (to_event bs o.page o.state room) e h)))

replies : (p : List ℕ) (s : State) (bytes : List ℕ) (room : ℕ) → good p s ≡ true → 0 < length (next_rule p s bytes room).reply
    → Answers s bytes room (next_rule p s bytes room)
replies p s bytes room g = by (sends s.sending) refl
  where
    by : (t : Bool) → sends s.sending ≡ t → 0 < length (next_rule p s bytes room).reply → Answers s bytes room (next_rule p s bytes room)
    by true u = within_room p s bytes room g u
    by false u = rw (next_outside p s bytes room g u) (λ h. told_answers s bytes room (to_event bytes p s room) u h (to_told bytes p s room g u h))

stops : (p : List ℕ) (s : State) (bytes : List ℕ) (room : ℕ) → good p s ≡ true → let r = next_rule p s bytes room in
    0 < length r.rest → is_event r.answer (length r.reply) ≡ true
stops p s bytes room g = by (sends s.sending) refl
  where
    by : (t : Bool) → sends s.sending ≡ t → let r = next_rule p s bytes room in 0 < length r.rest
        → is_event r.answer (length r.reply) ≡ true
    by true u = inside_stops p s bytes room g u
    by false u = rw (next_outside p s bytes room g u) (event_stops bytes p s room)

one : (p : List ℕ) (s : State) (bytes : List ℕ) (room : ℕ) → let r = next_rule p s bytes room in (r.answer ≡ 0) ⊎ (r.reply ≡ [])
one p s bytes room = by (good p s) (sends s.sending) refl refl
  where
    by : (t v : Bool) → good p s ≡ t → sends s.sending ≡ v → let r = next_rule p s bytes room in (r.answer ≡ 0) ⊎ (r.reply ≡ [])
    by false v g u = rw (next_refused p s bytes room g) (inr refl)
    by true true g u = inside_one p s bytes room g u
    by true false g u = rw (next_outside p s bytes room g u) (event_one bytes p s room)

-- ---- one byte

quiet_step : (o : Outcome) (b : ℕ) → o.taken ≡ true → o.answer ≡ 0 → joined o (ended o.page o.state 0 []) ≡ at_event o b []
unfolding joined at_event
quiet_step o b t e = rw (t, e, append-nil o.reply)

one_outside : (p : List ℕ) (s : State) (b room : ℕ) → good p s ≡ true → sends s.sending ≡ false → (t : Bool) → tells (step_rule p s b room) ≡ t
    → to_event (b ∷ []) p s room ≡ at_event (step_rule p s b room) b []
one_outside p s b room g u true e = to_event_lem b [] p s room e
one_outside p s b room g u false e =
    let o = step_rule p s b room in
    let n = (no_event o.answer (length o.reply) e).0 in
    to_go b [] p s room e ∙ ap (joined o) (to_done o.page o.state (room - length o.reply))
    ∙ quiet_step o b (taken_is b [] p s room g u ∙ lt-ltb o.answer 6 (omega (arith, n))) n

one_inside : (p : List ℕ) (s : State) (b room : ℕ) → next_inside p s (b ∷ []) room ≡ at_event (step_inside p s room) b []
unfolding next_inside step_inside at_event behind goes_on
one_inside p s b zero = refl
one_inside p s b (suc n) = rw (ne_eqb (suc n) 0 (omega arith), append-nil)

inside_step : (p : List ℕ) (s : State) (b room : ℕ) → good p s ≡ true → sends s.sending ≡ true
    → next_rule p s (b ∷ []) room ≡ at_event (step_rule p s b room) b []
unfolding next_rule step_rule
inside_step p s b room g u = rw (g, u) (one_inside p s b room)

bad_step_lem : (p : List ℕ) (s : State) (b room : ℕ) → good p s ≡ false → at_event (step_rule p s b room) b [] ≡ ended p s 7 (b ∷ [])
unfolding step_rule at_event
bad_step_lem p s b room g = rw g

next_one : (p : List ℕ) (s : State) (b room : ℕ) → next_rule p s (b ∷ []) room ≡ at_event (step_rule p s b room) b []
next_one p s b room = by (good p s) (sends s.sending) refl refl
  where
    by : (t v : Bool) → good p s ≡ t → sends s.sending ≡ v → next_rule p s (b ∷ []) room ≡ at_event (step_rule p s b room) b []
    by false v g u = next_refused p s (b ∷ []) room g ∙ sym (bad_step_lem p s b room g)
    by true true g u = inside_step p s b room g u
    by true false g u = next_outside p s (b ∷ []) room g u ∙ one_outside p s b room g u (tells (step_rule p s b room)) refl

pub next_tells : NextTells
next_tells = record { first = next_first; loop = heard_over; stops = stops; step = next_one; one = one; replies = replies }
