-- What the terminal replies to ESC 5.
--     asked_begun, asked_stopped    the run that asks, with room and without
--     asked_nothing, asked_refused  inside a sequence or a send, and on a bad page or state
--     asking_page, asking_fits      on every path: the page is as it was, and the reply fits
--     cut_fills, whole_state, never_cut     a reply that is cut, one that is not, and room enough
--     same_asking                   what is sent depends on no protected cell's contents
--     replies_to_asking             the statement of specs/Ask
-- Assumes nothing.
use mathlib.Core.Path.{◌≡◌, refl, sym, ap, ◌∙◌}
use mathlib.Core.Bool.{Bool, true, false, false≢true}
use mathlib.Core.List.{List, [], ◌∷◌, ◌++◌, append-nil, append_assoc}
use mathlib.Core.Logic.{inr}
use Prim.Native.Nat.{ℕ, zero, suc, ◌+◌, ◌-◌, ◌*◌, ◌≤◌, ◌<◌}
use native.Mathlib.Nat.{sub-zero}
use native.Mathlib.Omega.{arith}
use lib.Dec.{leb, eqb}
use lib.ListN.{length, take, length-take, length-drop}
use lib.Seq.{take_all}
use borrow.Author.Tests.{leb-true, lt-ltb, eqb-true, eqb-false, ne_eqb, not-true}
use Rattle.rules.specs.declared.State.{State}
use Rattle.rules.specs.declared.Core.{Core}
use Rattle.rules.specs.declared.Pending.{Pending}
use Rattle.rules.specs.declared.Decoded.TheVariants as Decoded
use Rattle.rules.specs.declared.Command.TheVariants as Command
use Rattle.rules.specs.declared.Send.TheVariants as Send
use Rattle.rules.specs.declared.Place.TheVariants as Place
use Rattle.rules.specs.declared.Sending.{Sending}
use Rattle.rules.specs.Cell.{pick, either, between, code, kind, sent}
use Rattle.rules.specs.State.{width_of, segment_start, awaiting, idle, is_idle, sends, with_sending, changed, sending_after, gathered_after, setup_after}
use Rattle.rules.specs.State.{Inside}
use Rattle.rules.specs.Possible.{good}
use Rattle.rules.specs.Theorems.Good.{GoodSend}
use Rattle.rules.specs.Decode.{lookup, idle_rule, escape_rule, decode_rule}
use Rattle.rules.specs.Plan.{send_plan, plan_rule}
use Rattle.rules.specs.Send.{Spot, leaves_out, left_out, cell_place, text_places, text_at, places, bytes_of, sent_from, left_from}
use Rattle.rules.specs.Carry.{Effect, begun, carried}
use Rattle.rules.specs.Step.{Outcome, unheard, outcome_of, obeyed, inner_rule, step_rule}
use Rattle.rules.specs.Theorems.Steps.{Refused}
use Rattle.rules.specs.Calls.{Ran, ended, joined, repeated, run_inside, run_rule}
use Rattle.rules.specs.Theorems.Noninterference.{Alike}
use Rattle.rules.proofs.Tests.{both_true, both_parts}
use Rattle.rules.proofs.Screens.{screen_inside}
use Rattle.rules.proofs.Sends.{places_small, bytes_beyond, places_left, left_ok, some_left, idle_is, not_sending, sent_fits, sent_full, sent_bound}
use Rattle.rules.proofs.Kept.{good_parts, possible_parts, step_good}
use Rattle.rules.proofs.Labels.{labels_stay_in}
use Rattle.rules.proofs.Run.{run_refused, run_go, run_stop, run_done}
use Rattle.counter.specs.Pieces.{is_mark}
use Rattle.counter.specs.Ask.{is_ready, question, asking, is_cut, is_sent, AllSent, none, more, Replies, RepliesToAsking, AskingPage}

-- ---- the bytes of a send

sent_space : is_sent 0x20 ≡ true
unfolding is_sent is_mark
sent_space = refl

sent_code : (c : ℕ) (s t : Bool) → leb 0x20 c ≡ s → leb c 0x7e ≡ t → is_sent (pick s (pick t c 0x20) 0x20) ≡ true
unfolding is_sent
sent_code c true true e f = by_mark (is_mark c)
  where
    inside : between 0x20 0x7e c ≡ true
    inside = let k : c ≤ 0x7e = leb-true _ _ f in both_true e (lt-ltb c 127 (omega arith))

    by_mark : (m : Bool) → either m (between 0x20 0x7e c) ≡ true
    by_mark true = refl
    by_mark false = inside
sent_code c true false e f = sent_space
sent_code c false t e f = sent_space

sent_cell : (v : ℕ) → is_sent (sent v) ≡ true
sent_cell v = by_kind (eqb (kind v) 0)
  where
    by_kind : (t : Bool) → is_sent (pick t (pick (leb 0x20 (code v)) (pick (leb (code v) 0x7e) (code v) 0x20) 0x20) 0x20) ≡ true
    by_kind true = sent_code (code v) (leb 0x20 (code v)) (leb (code v) 0x7e) refl refl
    by_kind false = sent_space

sent_place : (out after : Bool) (v : ℕ) → AllSent (cell_place out after v)
unfolding cell_place is_sent is_mark
sent_place out after v = by_tests (left_out out v) after
  where
    by_tests : (s t : Bool) → AllSent (pick s (pick t [] (0x1c ∷ [])) (sent v ∷ []))
    by_tests true true = none
    by_tests true false = more refl none
    by_tests false t = more (sent_cell v) none

sent_append : {a b : List ℕ} → AllSent a → AllSent b → AllSent (a ++ b)
sent_append none y = y
sent_append (more h x) y = more h (sent_append x y)

replies_more : {a r : List ℕ} → AllSent a → Replies r → Replies (a ++ r)
replies_more {a} h x =
    record {
      text = a ++ x.text;
      is = ap (λ (t : List ℕ). a ++ t) x.is
          ∙ sym (append_assoc a x.text (0x0d ∷ []));
      sent = sent_append h x.sent;
    }

-- a text's bytes, and then its CR
text_replies : (w : ℕ) (all segment : Bool) (n : ℕ) (after : Bool) (i : ℕ) (l : List ℕ) → Replies (bytes_of (text_places w all segment n after i l))
unfolding text_places bytes_of is_sent is_mark
text_replies w all segment n after i [] = record { text = []; is = refl; sent = none }
text_replies w all segment zero after i (v ∷ l) =
    replies_more {a = 0x1f ∷ []} (more refl none)
    (replies_more (sent_place (leaves_out all) false v) (text_replies w all segment (w - 1) (left_out (leaves_out all) v) (suc i) l))
text_replies w all segment (suc n) after i (v ∷ l) =
    replies_more (sent_place (leaves_out all) after v) (text_replies w all segment n (left_out (leaves_out all) v) (suc i) l)

-- ---- 35h after a bare ESC

-- what ESC 5 sends: the cells not marked protected, from the segment's home through the cursor
abbrev open_text : Core → Sending
open_text c = Sending.Text false true (Place.Cell (segment_start c.screen))

text_whole : (p : List ℕ) (c : Core) → Replies (bytes_of (places p c (open_text c)))
unfolding places text_at
text_whole p c = text_replies _ false true _ _ _ _

decode_5 : (q : Pending) → q ≡ Pending.Escape → decode_rule q 0x35 ≡ Decoded.Do (Command.Send Send.OpenSegment)
unfolding decode_rule escape_rule lookup
decode_5 q e = ap (λ (q : Pending). decode_rule q 0x35) e

outcome_by : (s : State) (t : Bool) (a b : Effect) → outcome_of s (pick t a b) ≡ pick t (outcome_of s a) (outcome_of s b)
outcome_by s true a b = refl
outcome_by s false a b = refl

-- it begins, as far as there is room
abbrev begins : List ℕ → State → ℕ → Outcome
begins p s room = record {
  answer = 0;
  taken = true;
  state = record {
    core = idle s.core;
    sending = left_from p (idle s.core) (open_text s.core) room;
    gathered = s.gathered;
    setup = s.setup;
  };
  page = p;
  reply = sent_from p (idle s.core) (open_text s.core) room;
}

step_5 : (p : List ℕ) (s : State) (room : ℕ) → good p s ≡ true → sends s.sending ≡ false → s.core.pending ≡ Pending.Escape
    → step_rule p s 0x35 room ≡ pick (eqb room 0) (unheard 6 p s) (begins p s room)
unfolding step_rule inner_rule obeyed plan_rule send_plan carried begun sending_after gathered_after setup_after changed
step_5 p s room g u e = rw (g, u, decode_5 s.core.pending e) (outcome_by s (eqb room 0) _ _)

-- ---- ESC 5

decode_escape : (q : Pending) → q ≡ Pending.Idle → decode_rule q 0x1b ≡ Decoded.Wait Pending.Escape
unfolding decode_rule idle_rule lookup
decode_escape q e = ap (λ (q : Pending). decode_rule q 0x1b) e

-- the state with another sequence under way
abbrev under : State → Pending → State
under s q = record { core = awaiting s.core q; sending = s.sending; gathered = s.gathered; setup = s.setup }

abbrev waits : List ℕ → State → Outcome
waits p s = record { answer = 0; taken = true; state = under s Pending.Escape; page = p; reply = [] }

-- the run with some room, and without any
pub record Begun (p : List ℕ) (s : State) (room : ℕ) (r : Ran) : Type 0 where
  pub answer : r.answer ≡ 0
  pub state : r.state ≡ with_sending s (left_from p s.core (open_text s.core) room)
  pub page : r.page ≡ p
  pub reply : r.reply ≡ sent_from p s.core (open_text s.core) room

pub record Stopped (p : List ℕ) (s : State) (r : Ran) : Type 0 where
  pub answer : r.answer ≡ 6
  pub state : r.state ≡ under s Pending.Escape
  pub page : r.page ≡ p
  pub reply : r.reply ≡ []

ready_parts : (s : State) → is_ready s ≡ true → (s.core.pending ≡ Pending.Idle) × (sends s.sending ≡ false)
unfolding is_ready
ready_parts s r =
    let a = both_parts (is_idle s.core.pending) _ r in
    (idle_is s.core.pending a.0, not-true _ a.1)

module _ (p : List ℕ) (s : State) (room : ℕ) (g : good p s ≡ true) (r : is_ready s ≡ true) where
  no_sequence : s.core.pending ≡ Pending.Idle
  no_sequence = (ready_parts s r).0

  no_send : sends s.sending ≡ false
  no_send = (ready_parts s r).1

  step_escape : step_rule p s 0x1b room ≡ waits p s
  unfolding step_rule inner_rule obeyed sending_after gathered_after setup_after changed
  step_escape = rw (g, no_send, decode_escape s.core.pending no_sequence)

  pub good_escaped : good p (under s Pending.Escape) ≡ true
  good_escaped = rw step_escape at (step_good p s 0x1b room g)

  asked : asking p s room ≡ joined (waits p s) (repeated (0x35 ∷ []) p (under s Pending.Escape) room)
  unfolding asking question run_rule
  asked =
      rw (r, g, no_send)
      (run_go 0x1b (0x35 ∷ []) p s room no_send (ap (λ (o : Outcome). eqb o.answer 6) step_escape) ∙ rw (step_escape, sub-zero))

  second : step_rule p (under s Pending.Escape) 0x35 room
      ≡ pick (eqb room 0) (unheard 6 p (under s Pending.Escape)) (begins p (under s Pending.Escape) room)
  second = step_5 p (under s Pending.Escape) room good_escaped no_send refl

  idle_again : idle s.core ≡ s.core
  idle_again = ap (awaiting s.core) (sym no_sequence)

  -- with some room it begins
  begins_there : 0 < room → step_rule p (under s Pending.Escape) 0x35 room ≡ begins p (under s Pending.Escape) room
  begins_there h = second ∙ rw (ne_eqb room 0 (omega arith))

  asked_joined : 0 < room → asking p s room
      ≡ joined (waits p s) (joined (begins p (under s Pending.Escape) room) (ended p (begins p (under s Pending.Escape) room).state 0 []))
  asked_joined h =
      let t = under s Pending.Escape in
      let o = begins_there h in
      asked ∙ ap (joined (waits p s)) (run_go 0x35 [] p t room no_send (ap (λ (o : Outcome). eqb o.answer 6) o) ∙ rw (o, run_done))

  pub as_step : 0 < room
      → ((asking p s room).reply ≡ (step_rule p (under s Pending.Escape) 0x35 room).reply)
      × ((asking p s room).state ≡ (step_rule p (under s Pending.Escape) 0x35 room).state)
  unfolding joined
  as_step h = rw (asked_joined h, begins_there h) (append-nil _, refl)

  pub asked_begun : 0 < room → Begun p s room (asking p s room)
  unfolding joined
  asked_begun h = rw (asked_joined h) (record {
    answer = refl;
    state = ap (λ (c : Core). record { core = c; sending = left_from p c (open_text c) room; gathered = s.gathered; setup = s.setup }) idle_again;
    page = refl;
    reply = append-nil _ ∙ ap (λ (c : Core). sent_from p c (open_text c) room) idle_again;
  })

  pub asked_stopped : room ≡ 0 → Stopped p s (asking p s room)
  unfolding joined
  asked_stopped z =
      let t = under s Pending.Escape in
      let o : step_rule p t 0x35 room ≡ unheard 6 p t = second ∙ rw z in
      let q : repeated (0x35 ∷ []) p t room ≡ ended p t 6 (0x35 ∷ []) = run_stop 0x35 [] p t room no_send (ap (λ (o : Outcome). o.answer) o) in
      rw (asked, q) (record { answer = refl; state = refl; page = refl; reply = refl })

  pub by_room : {P : Type 0} → (room ≡ 0 → P) → (0 < room → P) → P
  by_room {P} x y = by_test (eqb room 0) refl
    where
      by_test : (t : Bool) → eqb room 0 ≡ t → P
      by_test true f = x (eqb-true room 0 f)
      by_test false f = y (omega (arith, eqb-false room 0 f))

  -- ---- whether the reply ends

  at_start : GoodSend s.core.screen (open_text s.core)
  at_start = let i = screen_inside _ (possible_parts s (good_parts p s g).1).core.screen in (omega arith, i.from)

  inside : Inside s.core.screen
  inside = screen_inside _ (possible_parts s (good_parts p s g).1).core.screen

  abbrev bytes : List ℕ
  bytes = bytes_of (places p s.core (open_text s.core))

  -- so much is left
  left_length : 0 < room → length (bytes_of (places p s.core (left_from p s.core (open_text s.core) room))) ≡ length bytes - room
  left_length h =
      ap (λ (l : List Spot). length (bytes_of l)) (places_left p s.core (good_parts p s g).0 inside (open_text s.core) at_start room h)
      ∙ (ap length (bytes_beyond (places_small p s.core (open_text s.core)) room) ∙ length-drop room bytes)

  cut_some : 0 < room → sends (left_from p s.core (open_text s.core) room) ≡ true → room < length bytes
  cut_some h k =
      omega (
        arith,
        left_length h,
        some_left p s.core Pending.Idle _ (left_ok p s.core (good_parts p s g).0 inside (open_text s.core) at_start room h) k,
      )

  cut_none : 0 < room → sends (left_from p s.core (open_text s.core) room) ≡ false → length bytes ≤ room
  unfolding places bytes_of
  cut_none h k =
      let z = ap (λ (y : Sending). length (bytes_of (places p s.core y))) (not_sending (left_from p s.core (open_text s.core) room) k) in
      omega (arith, left_length h, z)

  cut_is : 0 < room → is_cut (asking p s room) ≡ sends (left_from p s.core (open_text s.core) room)
  unfolding is_cut
  cut_is h = let x = asked_begun h in rw (x.answer, x.state)

  pub cut_fills : is_cut (asking p s room) ≡ true → length (asking p s room).reply ≡ room
  cut_fills k =
      by_room (λ z. rw ((asked_stopped z).reply, z))
      (λ h. rw (asked_begun h).reply
      (sent_full p s.core (good_parts p s g).0 inside (open_text s.core) at_start room h (sym (cut_is h) ∙ k)))

  stopped_cut : room ≡ 0 → is_cut (asking p s room) ≡ true
  unfolding is_cut
  stopped_cut z = rw (asked_stopped z).answer

  -- a reply that is not cut
  uncut : {P : Type 0} → is_cut (asking p s room) ≡ false → ((h : 0 < room) → sends (left_from p s.core (open_text s.core) room) ≡ false → P) → P
  uncut k x = by_room (λ z. absurd (false≢true (sym k ∙ stopped_cut z))) (λ h. x h (sym (cut_is h) ∙ k))

  pub whole_answer : is_cut (asking p s room) ≡ false → (asking p s room).answer ≡ 0
  whole_answer k = uncut k (λ h l. (asked_begun h).answer)

  pub whole_state : is_cut (asking p s room) ≡ false → (asking p s room).state ≡ s
  whole_state k = uncut k
      (λ h l. (asked_begun h).state
      ∙ ap (with_sending s) (not_sending (left_from p s.core (open_text s.core) room) l ∙ sym (not_sending s.sending no_send)))

  pub whole_replies : is_cut (asking p s room) ≡ false → Replies (asking p s room).reply
  unfolding sent_from
  whole_replies k =
      uncut k (λ h l.
      let a : take room bytes ≡ bytes = take_all room bytes (cut_none h l) in
      rw (asked_begun h).reply (rw a (text_whole p s.core)))

  pub never_cut : 24 * (width_of s.core.screen + 1) ≤ room → is_cut (asking p s room) ≡ false
  unfolding sent_from
  never_cut m = by (is_cut (asking p s room)) refl
    where
      most : length bytes ≤ 24 * (width_of s.core.screen + 1)
      most =
          omega (
            arith,
            length-take (length bytes) bytes,
            sent_bound p s.core inside (open_text s.core) at_start (length bytes),
          )

      by : (t : Bool) → is_cut (asking p s room) ≡ t → is_cut (asking p s room) ≡ false
      by true k = absurd (omega (arith, most, cut_some (omega arith) (sym (cut_is (omega arith)) ∙ k)))
      by false k = k

-- ---- on every path

-- inside a sequence or a send nothing is asked
pub asked_nothing : (p : List ℕ) (s : State) (room : ℕ) → good p s ≡ true → is_ready s ≡ false → asking p s room ≡ ended p s 0 []
unfolding asking question run_rule run_inside repeated
asked_nothing p s room g r = rw (r, g) (by (sends s.sending))
  where
    by : (t : Bool) → pick t (ended p s 0 []) (ended p s 0 []) ≡ ended p s 0 []
    by true = refl
    by false = refl

-- on a bad page or state the run is refused
pub asked_refused : (p : List ℕ) (s : State) (room : ℕ) → good p s ≡ false → Refused p s (question (is_ready s)) (asking p s room)
unfolding asking
asked_refused p s room g = run_refused p s (question (is_ready s)) (pick (is_ready s) room 0) g

pub asking_page : AskingPage
asking_page p s room = by_tests (good p s) (is_ready s) refl refl
  where
    by_tests : (t u : Bool) → good p s ≡ t → is_ready s ≡ u → (asking p s room).page ≡ p
    by_tests false u g r = (asked_refused p s room g).page
    by_tests true false g r = ap (λ (x : Ran). x.page) (asked_nothing p s room g r)
    by_tests true true g r = by_room p s room g r (λ z. (asked_stopped p s room g r z).page) (λ h. (asked_begun p s room g r h).page)

pub asking_fits : (p : List ℕ) (s : State) (room : ℕ) → length (asking p s room).reply ≤ room
asking_fits p s room = by_tests (good p s) (is_ready s) refl refl
  where
    by_tests : (t u : Bool) → good p s ≡ t → is_ready s ≡ u → length (asking p s room).reply ≤ room
    by_tests false u g r = rw (asked_refused p s room g).reply (omega arith)
    by_tests true false g r = rw (asked_nothing p s room g r) (omega arith)
    by_tests true true g r =
        by_room p s room g r (λ z. rw (asked_stopped p s room g r z).reply (omega arith))
        (λ h. rw (asked_begun p s room g r h).reply (sent_fits p s.core (open_text s.core) room))

pub replies_to_asking : RepliesToAsking
replies_to_asking p s room g r k = whole_replies p s room g r k

-- ---- what is sent depends on no protected cell's contents

-- what a run that asks gives, but for the page
pub record Same (a b : Ran) : Type 0 where
  pub answer : a.answer ≡ b.answer
  pub reply : a.reply ≡ b.reply
  pub state : a.state ≡ b.state

good_alike : {p q : List ℕ} {s : State} → Alike p q s s → good p s ≡ good q s
unfolding good
good_alike a = rw a.pages.size

module _ (p q : List ℕ) (s : State) (room : ℕ) (a : Alike p q s s) where
  -- the byte 5 after ESC
  same_byte : good p s ≡ true → good q s ≡ true → is_ready s ≡ true → 0 < room
      → Same (asking p s room) (asking q s room)
  same_byte g k r h =
      let t = under s Pending.Escape in
      let z = labels_stay_in.begins p q t t 0x35 room (record { state = refl; pages = a.pages }) refl (inr refl) in
      let x = asked_begun p s room g r h in
      let y = asked_begun q s room k r h in
      let m = as_step p s room g r h in
      let n = as_step q s room k r h in
      record {
        answer = x.answer ∙ sym y.answer;
        reply = m.0 ∙ (z.reply ∙ sym n.0);
        state = m.1 ∙ (z.state ∙ sym n.1);
      }

  pub same_asking : Same (asking p s room) (asking q s room)
  same_asking = by_tests (good p s) (is_ready s) refl refl
    where
      by_tests : (t u : Bool) → good p s ≡ t → is_ready s ≡ u → Same (asking p s room) (asking q s room)
      by_tests false u g r =
          let x = asked_refused p s room g in
          let y = asked_refused q s room (sym (good_alike a) ∙ g) in
          record { answer = x.answer ∙ sym y.answer; reply = x.reply ∙ sym y.reply; state = x.state ∙ sym y.state }
      by_tests true false g r =
          rw (asked_nothing p s room g r, asked_nothing q s room (sym (good_alike a) ∙ g) r) (record { answer = refl; reply = refl; state = refl })
      by_tests true true g r =
          let k = sym (good_alike a) ∙ g in
          by_room p s room g r
          (λ z.
          let x = asked_stopped p s room g r z in
          let y = asked_stopped q s room k r z in
          record { answer = x.answer ∙ sym y.answer; reply = x.reply ∙ sym y.reply; state = x.state ∙ sym y.state })
          (same_byte g k r)
