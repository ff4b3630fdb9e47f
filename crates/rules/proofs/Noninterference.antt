-- Demand 3, proved. A plan is made from the state and from which cells are guarded, and these are equal in both terminals: so are the plans.
-- Unless one of the six is completed, a plan leaves protect mode on, writes to no guarded cell and replies with none (Unrevealing), so replies
-- agree and the pages stay related (Related). By induction over the bytes of a run and over the calls nothing else tells the two apart.
--     noninterference     demand 3
--     start_related, call_agrees, related_kept     its start, one call, its end: for calls in another form
--     guards_agree, good_agrees     which cells are guarded, and whether page and state are good, in both
-- Assumes nothing.
use mathlib.Core.Path.{◌≡◌, refl, sym, ap, ◌∙◌}
use mathlib.Core.Bool.{Bool, true, false, false≢true}
use mathlib.Core.List.{List, [], ◌∷◌}
use Prim.Native.Nat.{ℕ, ◌-◌}
use native.Mathlib.Omega.{arith}
use borrow.Author.Tests.{ltb-true, eqb-true, ne_eqb}
use lib.Dec.{ltb, eqb}
use lib.ListN.{length, take}
use Rattle.rules.specs.declared.Core.{Core}
use Rattle.rules.specs.declared.State.{State}
use Rattle.rules.specs.declared.Plan.{Plan}
use Rattle.rules.specs.declared.Sending.{Sending}
use Rattle.rules.specs.declared.Land.{Land}
use Rattle.rules.specs.declared.Land.TheVariants as Land
use Rattle.rules.specs.declared.Change.{Change}
use Rattle.rules.specs.declared.Decoded.{Decoded}
use Rattle.rules.specs.declared.Decoded.TheVariants as Decoded
use Rattle.rules.specs.Cell.{pick, both, either}
use Rattle.rules.specs.Search.{guarded_at}
use Rattle.rules.specs.State.{number, idle, sends, sending_after}
use Rattle.rules.specs.Possible.{good}
use Rattle.rules.specs.Decode.{decode_rule}
use Rattle.rules.specs.Plan.{plan_rule}
use Rattle.rules.specs.Send.{Spot, bytes_of, beyond, standing, sent_from, left_from}
use Rattle.rules.specs.Carry.{Effect, effect, quiet, plan_width, landed, page_after, done, begun, carried}
use Rattle.rules.specs.Step.{obeyed, inner_rule, Outcome, unheard, outcome_of, goes_on, step_inside, step_rule}
use Rattle.rules.specs.Calls.{Ran, ended, joined, repeated, behind, run_inside, run_rule, press_rule, Call, Step, Run, Press, Called, of_step}
use Rattle.rules.specs.Calls.{of_run, of_press, call_rule, Played, after, play}
use Rattle.rules.specs.Next.{tells, at_event, to_event, next_inside, next_rule}
use Rattle.rules.specs.Theorems.Noninterference.{after_escape, any_of, excluded_bytes, completes, run_completes, inside_completes, call_completes}
use Rattle.rules.specs.Theorems.Noninterference.{any_completed, revealing, AlikePages, KeptPages, Noninterference}
use Rattle.rules.proofs.Related.{Related, related_alike, related_cell, related_length, related_guards, related_write, related_places}
use Rattle.rules.proofs.Related.{left_conceals}
use Rattle.rules.proofs.Commands.{kind_of}
use Rattle.rules.proofs.Unrevealing.{both_false, Unrevealing, unrevealing}
use Rattle.rules.proofs.ExcludedBytes.{gives_excluded, excluded_bytes_lem}
use Rattle.rules.proofs.Kept.{step_good}
use Rattle.rules.proofs.Next.{no_event, to_done, to_event_lem, to_go, event_taken, begun_tells, next_outside, next_refused}

abbrev pub protects : State → Bool
protects s = s.core.modes.protect

-- one test in both terminals
pick_agrees : {A : Type 0} (R : A → A → Type 0) (t : Bool) {a b a' b' : A} → (t ≡ true → R a b) → (t ≡ false → R a' b')
    → R (pick t a a') (pick t b b')
pick_agrees R true h k = h refl
pick_agrees R false h k = k refl

-- ---- the step

-- an outcome with another page
abbrev with_page : Outcome → List ℕ → Outcome
with_page o page = record { answer = o.answer; taken = o.taken; state = o.state; page = page; reply = o.reply }

-- what is known of a state: protect mode is on, and no ESC 6 or ESC 7 send is under way
pub record Closed (s : State) : Type 0 where
  pub on : protects s ≡ true
  pub conceals : revealing s.sending ≡ false

-- b is a but for the page, the pages are related to those at the start, p and q, and the state is closed
record Agree (p q : List ℕ) (a b : Outcome) : Type 0 where
  page : List ℕ
  but_page : b ≡ with_page a page
  related : Related p q a.page page
  closed : Closed a.state

abbrev AgreeFrom : State → List ℕ → List ℕ → Effect → Effect → Type 0
AgreeFrom s p q a b = Agree p q (outcome_of s a) (outcome_of s b)

landed_on : (g : List Bool) (l : Land) (c : Core) → c.modes.protect ≡ true → (landed g l c).modes.protect ≡ true
unfolding landed
landed_on g Land.Stay c on = on
landed_on g (Land.Settle i) c on = on

-- protect mode is a variable here: `rw` of a state's own field would rewrite the state
module _ (on : Bool) (e : on ≡ true) {p q x y : List ℕ} (h : Related p q x y) where
  pub guards_agree : guarded_at on x ≡ guarded_at on y
  guards_agree = rw e (related_guards h)

  pages_related : (k : Plan) → Unrevealing k → Related p q (page_after on k x) (page_after on k y)
  pages_related k f = rw e (related_write (plan_width k) k.second f.second (related_write (plan_width k) k.first f.first h))

module _ {p q x y : List ℕ} (h : Related p q x y) (c : Core) (z : Sending) (on : c.modes.protect ≡ true) (e : revealing z ≡ false) (room : ℕ) where
  sent_agrees : sent_from x c z room ≡ sent_from y c z room
  unfolding sent_from
  sent_agrees = ap (λ (l : List Spot). take room (bytes_of l)) (related_places c z on e h)

  left_agrees : left_from x c z room ≡ left_from y c z room
  unfolding left_from
  left_agrees = ap (λ (l : List Spot). standing (beyond room l)) (related_places c z on e h)

module _ {p q x y : List ℕ} (h : Related p q x y) (s : State) (closed : Closed s) where
  pub good_agrees : good x s ≡ good y s
  unfolding good
  good_agrees = rw (related_length h)

  -- an effect that leaves the page
  untouched : (n : ℕ) (c : Core) (k : Change) → c.modes.protect ≡ true → revealing (sending_after k s.sending) ≡ false
      → AgreeFrom s p q (effect n c k x []) (effect n c k y [])
  untouched n c k e f = record { page = y; but_page = refl; related = h; closed = record { on = e; conceals = f } }

  done_agrees : (k : Plan) → Unrevealing k → AgreeFrom s p q (done (protects s) x k) (done (protects s) y k)
  unfolding done sending_after
  done_agrees k f =
      let next = pages_related (protects s) closed.on h k f in
      record {
        page = page_after (protects s) k y;
        but_page = rw (guards_agree k.next.modes.protect f.on next);
        related = next;
        closed = record {
          on = landed_on (guarded_at k.next.modes.protect (page_after (protects s) k x)) k.land k.next f.on;
          conceals = closed.conceals;
        };
      }

  begun_agrees : (k : Plan) (room : ℕ) → Unrevealing k → AgreeFrom s p q (begun x k room) (begun y k room)
  unfolding begun sending_after
  begun_agrees k room f =
      rw (sent_agrees h k.next k.reply f.on f.reply room, left_agrees h k.next k.reply f.on f.reply room)
      record {
        page = y;
        but_page = refl;
        related = h;
        closed = record { on = f.on; conceals = left_conceals y k.next k.reply room f.reply };
      }

  -- a plan is carried out in both or, for want of room, in neither
  carried_agrees : (k : Plan) (room : ℕ) → (both (sends k.reply) (eqb room 0) ≡ false → Unrevealing k)
      → AgreeFrom s p q (carried x s.core k room) (carried y s.core k room)
  unfolding carried sending_after
  carried_agrees k room f =
      pick_agrees (AgreeFrom s p q) (sends k.reply)
      (λ d. pick_agrees (AgreeFrom s p q) (eqb room 0) (λ t. untouched _ _ _ closed.on closed.conceals)
      (λ t. begun_agrees k room (f (ap (λ (u : Bool). both u (eqb room 0)) d ∙ t))))
      (λ d. done_agrees k (f (ap (λ (u : Bool). both u (eqb room 0)) d)))

  carried_answer : (k : Plan) (room : ℕ) → both (sends k.reply) (eqb room 0) ≡ false → (carried x s.core k room).answer ≡ number k.answer
  unfolding carried done begun
  carried_answer k room = by (sends k.reply) (eqb room 0)
    where
      by : (d t : Bool) → both d t ≡ false
          → (pick d (pick t (quiet 6 s.core x) (begun x k room)) (done (protects s) x k)).answer ≡ number k.answer
      by true true e = absurd (false≢true (sym e))
      by true false e = refl
      by false t e = refl

  obeyed_agrees : (d : Decoded) (room : ℕ) → both (gives_excluded d) (eqb (obeyed x s.core s.setup.tabs d room).answer 0) ≡ false
      → AgreeFrom s p q (obeyed x s.core s.setup.tabs d room) (obeyed y s.core s.setup.tabs d room)
  unfolding obeyed sending_after
  obeyed_agrees (Decoded.Wait r) room e = untouched _ _ _ closed.on closed.conceals
  obeyed_agrees (Decoded.Gather v n b) room e = untouched _ _ _ closed.on closed.conceals
  obeyed_agrees (Decoded.Take v n) room e = untouched _ _ _ closed.on closed.conceals
  obeyed_agrees (Decoded.Reject a) room e = untouched _ _ _ closed.on closed.conceals
  obeyed_agrees (Decoded.Do d) room e =
      let k = plan_rule (guarded_at (protects s) x) s.setup.tabs (idle s.core) d in
      rw (← (guards_agree (protects s) closed.on h))
      (carried_agrees k room (λ fits. unrevealing (guarded_at (protects s) x) s.setup.tabs (idle s.core) closed.on d
      (ap (λ (n : ℕ). both (kind_of d).excluded (eqb n 0)) (sym (carried_answer k room fits)) ∙ e)))

  inner_agrees : (b room : ℕ) → completes s b (inner_rule x s.core s.setup.tabs b room).answer ≡ false
      → AgreeFrom s p q (inner_rule x s.core s.setup.tabs b room) (inner_rule y s.core s.setup.tabs b room)
  unfolding inner_rule completes sending_after
  inner_agrees b room e =
      pick_agrees (AgreeFrom s p q) (ltb b 128)
      (λ t. obeyed_agrees (decode_rule s.core.pending b) room
      (rw (← (excluded_bytes_lem s.core.pending b (ltb-true b 128 t)), t) at e))
      (λ t. untouched _ _ _ closed.on closed.conceals)

  -- a send goes on in both
  goes_agrees : (room : ℕ) → Agree p q (goes_on x s room) (goes_on y s room)
  unfolding goes_on
  goes_agrees room =
      rw (
        sent_agrees h s.core s.sending closed.on closed.conceals room,
        left_agrees h s.core s.sending closed.on
            closed.conceals room,
      )
      record {
        page = y;
        but_page = refl;
        related = h;
        closed = record { on = closed.on; conceals = left_conceals y s.core s.sending room closed.conceals };
      }

  unheard_agrees : (n : ℕ) → Agree p q (unheard n x s) (unheard n y s)
  unheard_agrees n = record { page = y; but_page = refl; related = h; closed = closed }

  inside_agrees : (room : ℕ) → Agree p q (step_inside x s room) (step_inside y s room)
  unfolding step_inside
  inside_agrees room = pick_agrees (Agree p q) (eqb room 0) (λ t. unheard_agrees 6) (λ t. goes_agrees room)

  step_agrees : (b room : ℕ) → completes s b (step_rule x s b room).answer ≡ false → Agree p q (step_rule x s b room) (step_rule y s b room)
  unfolding step_rule
  step_agrees b room e =
      rw (← good_agrees)
      (pick_agrees (Agree p q) (good x s)
      (λ t. pick_agrees (Agree p q) (sends s.sending) (λ u. inside_agrees room) (λ u. inner_agrees b room (rw (t, u) at e)))
      (λ t. unheard_agrees 7))

-- ---- the run

abbrev run_with_page : Ran → List ℕ → Ran
run_with_page r page = record {
  answer = r.answer;
  taken = r.taken;
  refused = r.refused;
  reply = r.reply;
  rest = r.rest;
  state = r.state;
  page = page;
}

record AgreeRun (p q : List ℕ) (a b : Ran) : Type 0 where
  page : List ℕ
  but_page : b ≡ run_with_page a page
  related : Related p q a.page page
  closed : Closed a.state

pub either_left : (a b : Bool) → either a b ≡ false → a ≡ false
either_left true b e = e
either_left false b e = refl

pub either_right : (a b : Bool) → either a b ≡ false → b ≡ false
either_right true b e = absurd (false≢true (sym e))
either_right false b e = e

joined_agrees : {p q : List ℕ} (o : Outcome) (page : List ℕ) (a b : Ran) → AgreeRun p q a b → AgreeRun p q (joined o a) (joined (with_page o page) b)
unfolding joined
joined_agrees o page a b r = rw r.but_page record { page = r.page; but_page = refl; related = r.related; closed = r.closed }

behind_agrees : {p q : List ℕ} (l : List ℕ) (a b : Ran) → AgreeRun p q a b → AgreeRun p q (behind l a) (behind l b)
unfolding behind
behind_agrees l a b r = rw r.but_page record { page = r.page; but_page = refl; related = r.related; closed = r.closed }

-- a byte that answers 6 completes nothing
refused : (s : State) (b : ℕ) → completes s b 6 ≡ false
unfolding completes
refused s b = both_false (both (after_escape s.core.pending) (any_of excluded_bytes b))

byte_completes : (s : State) (b n : ℕ) (r : Bool) → pick (eqb n 6) false (either (completes s b n) r) ≡ false → completes s b n ≡ false
byte_completes s b n r = by (eqb n 6) refl
  where
    by : (t : Bool) → eqb n 6 ≡ t → pick t false (either (completes s b n) r) ≡ false → completes s b n ≡ false
    by true u e = rw (eqb-true n 6 u) (refused s b)
    by false u e = either_left (completes s b n) r e

module _ {p q x y : List ℕ} (h : Related p q x y) (s : State) (closed : Closed s) where
  ended_agrees : (n : ℕ) (rest : List ℕ) → AgreeRun p q (ended x s n rest) (ended y s n rest)
  ended_agrees n rest = record { page = y; but_page = refl; related = h; closed = closed }

  -- one byte of a run, over what is known of the bytes after it
  byte_agrees : (b : ℕ) (bs : List ℕ) (room : ℕ) → run_completes (b ∷ bs) x s room ≡ false
      → ((y' : List ℕ) (k : State) (left : ℕ) → Related p q (step_rule x s b room).page y' → Closed k
      → run_completes bs (step_rule x s b room).page k left ≡ false
      → AgreeRun p q (repeated bs (step_rule x s b room).page k left) (repeated bs y' k left))
      → AgreeRun p q (repeated (b ∷ bs) x s room) (repeated (b ∷ bs) y s room)
  unfolding repeated run_completes
  byte_agrees b bs room c ih =
      pick_agrees (AgreeRun p q) (sends s.sending) (λ u. ended_agrees 0 (b ∷ bs))
      (λ u.
      let d = rw u at c in
      let o = step_rule x s b room in
      let a = step_agrees h s closed b room (byte_completes s b o.answer _ d) in
      rw a.but_page
      (pick_agrees (AgreeRun p q) (eqb o.answer 6) (λ t. ended_agrees 6 (b ∷ bs))
      (λ t. joined_agrees o a.page _ _
      (ih a.page o.state (room - length o.reply) a.related a.closed (either_right (completes s b o.answer) _ (rw t at d))))))

repeated_agrees : (bs : List ℕ) {p q x y : List ℕ} → Related p q x y → (s : State) → Closed s → (room : ℕ) → run_completes bs x s room ≡ false
    → AgreeRun p q (repeated bs x s room) (repeated bs y s room)
unfolding repeated
repeated_agrees [] h s closed room c = ended_agrees h s closed 0 []
repeated_agrees (b ∷ bs) h s closed room c = byte_agrees h s closed b bs room c (λ y k left g w d. repeated_agrees bs g k w left d)

-- ---- calls

pub record AgreeCall (p q : List ℕ) (a b : Called) : Type 0 where
  pub given : b.given ≡ a.given
  pub related : Related p q a.page b.page
  pub closed : Closed a.given.state

module _ {p q x y : List ℕ} (h : Related p q x y) (s : State) (closed : Closed s) where
  -- inside a send
  run_inside_agrees : (bs : List ℕ) (room : ℕ) → inside_completes x s bs room ≡ false → AgreeRun p q (run_inside x s bs room) (run_inside y s bs room)
  unfolding run_inside inside_completes
  run_inside_agrees bs room c =
      let a = goes_agrees h s closed room in
      rw a.but_page
      (pick_agrees (AgreeRun p q) (eqb room 0) (λ t. ended_agrees h s closed _ bs)
      (λ t. behind_agrees (goes_on x s room).reply _ _
      (repeated_agrees bs h (goes_on x s room).state a.closed (room - length (goes_on x s room).reply) (rw t at c))))

  run_agrees : (bs : List ℕ) (room : ℕ) → call_completes x s (Run bs room) ≡ false → AgreeRun p q (run_rule x s bs room) (run_rule y s bs room)
  unfolding run_rule call_completes
  run_agrees bs room c =
      rw (← (good_agrees h s closed))
      (pick_agrees (AgreeRun p q) (good x s)
      (λ t. pick_agrees (AgreeRun p q) (sends s.sending) (λ u. run_inside_agrees bs room (rw (t, u) at c))
      (λ u. repeated_agrees bs h s closed room (rw (t, u) at c)))
      (λ t. ended_agrees h s closed 7 bs))

  pub call_agrees : (c : Call) → call_completes x s c ≡ false → AgreeCall p q (call_rule x s c) (call_rule y s c)
  unfolding call_rule call_completes of_step of_run of_press press_rule
  call_agrees (Step b room) c =
      let a = step_agrees h s closed b room c in
      rw a.but_page record { given = refl; related = a.related; closed = a.closed }
  call_agrees (Run bs room) c =
      let a = run_agrees bs room c in
      rw a.but_page record { given = refl; related = a.related; closed = a.closed }
  call_agrees (Press v room) c = rw (good_agrees h s closed) record { given = refl; related = h; closed = closed }

-- ---- next

event_agrees : {p q : List ℕ} (o : Outcome) (page : List ℕ) (b : ℕ) (bs : List ℕ) → Related p q o.page page → Closed o.state
    → AgreeRun p q (at_event o b bs) (at_event (with_page o page) b bs)
unfolding at_event
event_agrees o page b bs h closed = record { page = page; but_page = refl; related = h; closed = closed }

module _ (b : ℕ) (bs x : List ℕ) (s : State) (room : ℕ) (g : good x s ≡ true) (u : sends s.sending ≡ false) where
  abbrev outcome : Outcome
  outcome = step_rule x s b room

  -- a byte that the run over the bytes taken takes
  first_completes : (l : List ℕ) → run_completes (b ∷ l) x s room ≡ false → completes s b outcome.answer ≡ false
  unfolding run_completes
  first_completes l c = byte_completes s b outcome.answer _ (rw u at c)

  event_completes : (t : Bool) → eqb outcome.answer 6 ≡ t → run_completes (take (at_event outcome b bs).taken (b ∷ bs)) x s room ≡ false
      → completes s b outcome.answer ≡ false
  unfolding joined
  event_completes true e c = rw (eqb-true outcome.answer 6 e) (refused s b)
  event_completes false e c = first_completes [] (rw (event_taken b bs x s room g u e) at c)

  rest_completes : eqb outcome.answer 6 ≡ false → (l : List ℕ) → run_completes (b ∷ l) x s room ≡ false
      → run_completes l outcome.page outcome.state (room - length outcome.reply) ≡ false
  unfolding run_completes
  rest_completes e l c = either_right (completes s b outcome.answer) _ (rw (u, e) at c)

-- one byte, over what is known of the bytes after it
module _ {p q x y : List ℕ} (h : Related p q x y) (s : State) (closed : Closed s) (b : ℕ) (bs : List ℕ) (room : ℕ) (g : good x s ≡ true)
    (u : sends s.sending ≡ false) where
  abbrev o : Outcome
  o = step_rule x s b room

  abbrev left : ℕ
  left = room - length o.reply

  turn_agrees : ((y' : List ℕ) → Related p q o.page y' → Closed o.state → sends o.state.sending ≡ false
      → run_completes (take (to_event bs o.page o.state left).taken bs) o.page o.state left ≡ false
      → AgreeRun p q (to_event bs o.page o.state left) (to_event bs y' o.state left))
      → run_completes (take (to_event (b ∷ bs) x s room).taken (b ∷ bs)) x s room ≡ false
      → AgreeRun p q (to_event (b ∷ bs) x s room) (to_event (b ∷ bs) y s room)
  unfolding joined
  turn_agrees ih c = by (tells o) refl
    where
      by : (t : Bool) → tells o ≡ t → AgreeRun p q (to_event (b ∷ bs) x s room) (to_event (b ∷ bs) y s room)
      by true e =
          let d = rw (to_event_lem b bs x s room e) at c in
          let a = step_agrees h s closed b room (event_completes b bs x s room g u (eqb o.answer 6) refl d) in
          rw (to_event_lem b bs x s room e, to_event_lem b bs y s room (ap tells a.but_page ∙ e), a.but_page)
          (event_agrees o a.page b bs a.related a.closed)
      by false e =
          let six : eqb o.answer 6 ≡ false = ne_eqb o.answer 6 (λ z. omega (arith, z, (no_event o.answer (length o.reply) e).0)) in
          let l = take (to_event bs o.page o.state left).taken bs in
          let d : run_completes (b ∷ l) x s room ≡ false = rw (to_go b bs x s room e) at c in
          let a = step_agrees h s closed b room (first_completes b bs x s room g u l d) in
          rw (to_go b bs x s room e, to_go b bs y s room (ap tells a.but_page ∙ e), a.but_page)
          (joined_agrees o a.page _ _
          (ih a.page a.related a.closed (begun_tells b bs x s room g u e) (rest_completes b bs x s room g u six l d)))

to_agrees : (bs : List ℕ) {p q x y : List ℕ} → Related p q x y → (s : State) → Closed s → (room : ℕ) → good x s ≡ true → sends s.sending ≡ false
    → run_completes (take (to_event bs x s room).taken bs) x s room ≡ false → AgreeRun p q (to_event bs x s room) (to_event bs y s room)
to_agrees [] {x = x} {y = y} h s closed room g u c = rw (to_done x s room, to_done y s room) (ended_agrees h s closed 0 [])
to_agrees (b ∷ bs) {x = x} h s closed room g u c =
    turn_agrees h s closed b bs room g u (λ y' k w v d. to_agrees bs k _ w _ (step_good x s b room g) v d) c

module _ {p q x y : List ℕ} (h : Related p q x y) (s : State) (closed : Closed s) where
  next_inside_agrees : (bs : List ℕ) (room : ℕ) → AgreeRun p q (next_inside x s bs room) (next_inside y s bs room)
  unfolding next_inside
  next_inside_agrees bs room =
      let a = goes_agrees h s closed room in
      rw a.but_page
      (pick_agrees (AgreeRun p q) (eqb room 0) (λ t. ended_agrees h s closed _ bs)
      (λ t. behind_agrees (goes_on x s room).reply _ _ (ended_agrees h (goes_on x s room).state a.closed 0 bs)))

  inside_next : (bs : List ℕ) (room : ℕ) → good x s ≡ true → sends s.sending ≡ true → AgreeRun p q (next_rule x s bs room) (next_rule y s bs room)
  unfolding next_rule
  inside_next bs room g u = rw (← (good_agrees h s closed), g, u) (next_inside_agrees bs room)

  outside_completes : (bs : List ℕ) (room : ℕ) → good x s ≡ true → sends s.sending ≡ false
      → call_completes x s (Run (take (next_rule x s bs room).taken bs) room) ≡ false
      → run_completes (take (to_event bs x s room).taken bs) x s room ≡ false
  unfolding next_rule call_completes
  outside_completes bs room g u c = rw (g, u) at c

  next_agrees : (bs : List ℕ) (room : ℕ) → call_completes x s (Run (take (next_rule x s bs room).taken bs) room) ≡ false
      → AgreeRun p q (next_rule x s bs room) (next_rule y s bs room)
  next_agrees bs room c = by (good x s) (sends s.sending) refl refl
    where
      by : (t v : Bool) → good x s ≡ t → sends s.sending ≡ v → AgreeRun p q (next_rule x s bs room) (next_rule y s bs room)
      by false v g u =
          rw (next_refused x s bs room g, next_refused y s bs room (sym (good_agrees h s closed) ∙ g)) (ended_agrees h s closed 7 bs)
      by true true g u = inside_next bs room g u
      by true false g u =
          let k = sym (good_agrees h s closed) ∙ g in
          rw (next_outside x s bs room g u, next_outside y s bs room k u)
          (to_agrees bs h s closed room g u (outside_completes bs room g u c))

  pub next_call_agrees : (bs : List ℕ) (room : ℕ) → call_completes x s (Run (take (next_rule x s bs room).taken bs) room) ≡ false
      → AgreeCall p q (of_run (next_rule x s bs room)) (of_run (next_rule y s bs room))
  unfolding of_run
  next_call_agrees bs room c =
      let a = next_agrees bs room c in
      rw a.but_page record { given = refl; related = a.related; closed = a.closed }

-- ---- lists of calls

record AgreePlay (p q : List ℕ) (a b : Played) : Type 0 where
  given : a.given ≡ b.given
  state : a.state ≡ b.state
  related : Related p q a.page b.page

play_agrees : (cs : List Call) {p q x y : List ℕ} → Related p q x y → (s : State) → Closed s → any_completed cs x s ≡ false
    → AgreePlay p q (play cs x s) (play cs y s)
unfolding play any_completed after
play_agrees [] h s closed e = record { given = refl; state = refl; related = h }
play_agrees (c ∷ cs) {x = x} h s closed e =
    let r = call_rule x s c in
    let a = call_agrees h s closed c (either_left (call_completes x s c) _ e) in
    let b = play_agrees cs a.related r.given.state a.closed (either_right (call_completes x s c) _ e) in
    rw a.given record { given = rw b.given; state = b.state; related = b.related }

-- pages alike are related to themselves, and related pages are kept as the statement says
pub start_related : (p q : List ℕ) → AlikePages p q → Related p q p q
start_related p q alike = related_alike p q alike.size alike.bits alike.cells

pub related_kept : {p q x y : List ℕ} → Related p q x y → KeptPages p q x y
related_kept h = record {
  size = related_length h;
  open_cells = λ i. (related_cell h i).open_cell_lem;
  first = λ i. (related_cell h i).first;
  second = λ i. (related_cell h i).second;
}

pub noninterference : Noninterference
noninterference p q s t calls on conceals alike e =
    let a = play_agrees calls (start_related p q alike.pages) s record { on = on; conceals = conceals } e in
    rw (← alike.state) record { given = a.given; state = a.state; pages = related_kept a.related }
