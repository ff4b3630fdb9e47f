-- The public calls: from what the functions below them promise to the rules.
--     powered_on, power_on_refused, step_refused, run_refused     power-on; a bad page or state
--     nothing_taken     a run that takes nothing and replies nothing
--     run_none, run_sent, run_on_lem     inside a send, without room, where it is not over or is the event, and where the bytes come behind it
--     one_byte          the run over one byte to the first event is the single step
--     text_sent, text_refused     a text put to the front of the room
--     unprogrammed, programmed     what a key sends
--     press_bad, press_locked, press_unknown, press_waits, press_sends, key_size     the key press
--     told_nothing, told_send, told_none, told_byte     which command a reply answers
--     copied_suc       a turn of the loop that copies a text to the front of the room
-- Assumes nothing.
use Rattle.std.specs.Prelude.{◌≡◌, ℕ, zero, suc, ◌+◌, ◌-◌, ◌<◌, ◌≤◌, Bool, true, false, eqb, List, [], ◌∷◌, ◌++◌, length, get_or, take, drop, set, replicate, nat_eq, Result, Ok, Err}
use mathlib.Core.Path.{refl, sym, ap, ap₂, subst, ◌∙◌}
use mathlib.Core.Bool.{false≢true}
use mathlib.Core.List.{append-nil}
use mathlib.Core.Logic.{◌⊎◌, inl, inr}
use native.Mathlib.Nat.{le_of_lt, sub-zero}
use native.Mathlib.Omega.{arith}
use lib.ListN.{length-append, length-drop, drop_of_length-le}
use lib.Seq.{take_all, take-nil, take_at, drop_at, drop-drop, drop-cons, set_at, take-suc, append_snoc, length-take-le}
use borrow.Author.Tests.{eqb-true, eqb-false, le-leb, lt-leb, ne_eqb}
use Rattle.rules.specs.declared.Answer.{Answer}
use Rattle.rules.specs.declared.Text.{Text}
use Rattle.rules.specs.declared.State.{State}
use Rattle.rules.specs.declared.Core.{Core}
use Rattle.rules.specs.declared.Sending.{Sending}
use Rattle.rules.specs.declared.Personality.{Personality}
use Rattle.rules.specs.declared.RunResult.{RunResult}
use Rattle.rules.specs.Cell.{pick, both, either}
use Rattle.rules.specs.Change.{within, filled}
use Rattle.rules.specs.State.{number, page_length, short_bytes, key_place, sends, with_sending}
use Rattle.rules.specs.Arguments.{is_key}
use Rattle.rules.specs.Slot.{all_text, text_ok}
use Rattle.rules.specs.Possible.{power_on, blank, screen_ok, sending_ok, good}
use Rattle.rules.specs.Theorems.Good.{GoodSend}
use Rattle.rules.specs.Send.{command_of, places, bytes_of, beyond, standing, sent_from, left_from}
use Rattle.rules.specs.Step.{Outcome, goes_on, step_rule}
use Rattle.rules.specs.Next.{at_event, next_rule, reply_command}
use Rattle.rules.specs.Calls.{power_on_rule, Ran, ended, behind, run_inside, run_rule, pressed, repeated, key_sends, key_at, press_rule}
use Rattle.rules.specs.Room.{over}
use Rattle.rules.proofs.Texts.{text_parts, texts_at}
use Rattle.rules.proofs.Kept.{good_parts, good_whole, possible_parts, possible_whole}
use Rattle.rules.proofs.Noninterference.{either_left, either_right}
use Rattle.rules.proofs.Next.{next_tells, next_inside_lem, next_unheard, next_refused}
use Rattle.rules.proofs.Run.{run_unheard}
use Rattle.rules.proofs.Sends.{ok_good, not_sending, sent_fits}
use Rattle.carry.specs.Went.{Went}
use Rattle.terminal.specs.Promise.{PoweredOn, Stepped, RunDone, sending, KeySent}
use Rattle.terminal.specs.Loop.{state_of, ran_to, call_to}
use Rattle.terminal.proofs.Carrying.{over_none}
use Rattle.terminal.proofs.Loop.{run_behind, run_rests}

-- ---- power-on

all_filled : (v : ℕ) (l : List ℕ) → filled false v l ≡ replicate (length l) v
unfolding filled
all_filled v [] = refl
all_filled v (x ∷ l) = ap (λ (t : List ℕ). v ∷ t) (all_filled v l)

blank_filled : (p : List ℕ) → length p ≡ 1920 → within 0 1920 (filled false 0) p ≡ blank
unfolding within blank
blank_filled p n =
    rw (take_all 1920 p (omega arith), drop_of_length-le p {i = 1920} (omega arith), append-nil, all_filled 0 p, n)

pub powered_on : (m : Personality) (p q : List ℕ) (s : State) → length p ≡ 1920 → s ≡ power_on m → q ≡ within 0 1920 (filled false 0) p
    → PoweredOn (power_on_rule m p) (record { answer = Answer.Done; state = s }) q
unfolding power_on_rule
powered_on m p q s n e i = rw n (record { answer = refl; state = e; page = i ∙ blank_filled p n })

pub power_on_refused : (m : Personality) (p : List ℕ) (s : State) → (length p ≡ 1920 → ⊥) → s ≡ power_on m
    → PoweredOn (power_on_rule m p) (record { answer = Answer.BadCall; state = s }) p
unfolding power_on_rule
power_on_refused m p s n e = rw (ne_eqb (length p) 1920 n) (record { answer = refl; state = e; page = refl })

-- ---- a run that takes nothing and replies nothing

pub nothing_taken : {o : Ran} {p : List ℕ} {s : State} {l : List ℕ} (a : Answer) (w : List ℕ) → o ≡ ended p s (number a) l
    → RunDone o (record { answer = a; taken = 0; replied = 0; refused = 0; state = s }) l p w w
nothing_taken {p = p} {s = s} {l = l} a w e =
    subst (λ (o : Ran). RunDone o (record { answer = a; taken = 0; replied = 0; refused = 0; state = s }) l p w w) (sym e) (record {
      answer = refl;
      taken = refl;
      replied = refl;
      refused = refl;
      rest = refl;
      state = refl;
      page = refl;
      room = over_none w;
      fits = omega arith;
      within = omega arith;
    })

refused : (p : List ℕ) (s : State) (l : List ℕ) (room : ℕ) → good p s ≡ false → run_rule p s l room ≡ ended p s 7 l
unfolding run_rule
refused p s l room g = rw g

-- ---- a bad page or state: 7, and nothing changes

module _ (p : List ℕ) (s : State) (g : good p s ≡ false) where
  pub step_refused : (b : ℕ) (w : List ℕ)
      → Stepped (step_rule p s b (length w)) (record { answer = Answer.BadCall; taken = false; replied = 0; state = s }) p w w
  unfolding step_rule
  step_refused b w = rw g (record { answer = refl; taken = refl; state = refl; replied = refl; page = refl; room = over_none w; fits = omega arith })

  pub run_refused : (stop : Bool) (l w : List ℕ)
      → RunDone (call_to stop p s l (length w)) (record { answer = Answer.BadCall; taken = 0; replied = 0; refused = 0; state = s }) l p w w
  run_refused true l w = nothing_taken Answer.BadCall w (next_refused p s l (length w) g)
  run_refused false l w = let r = refused p s l (length w) g in nothing_taken Answer.BadCall w r

-- ---- inside a send

module _ (p : List ℕ) (s : State) (g : good p s ≡ true) where
  -- where the send comes to with a room
  abbrev sent_by : ℕ → List ℕ
  sent_by room = sent_from p s.core s.sending room

  abbrev left_by : ℕ → Sending
  left_by room = left_from p s.core s.sending room

  module _ (u : sends s.sending ≡ true) where
    pub run_none : (stop : Bool) (a : Answer) (l w : List ℕ) → eqb (length w) 0 ≡ true → number a ≡ pick (eqb (length l) 0) 0 6
        → RunDone (call_to stop p s l (length w)) (record { answer = a; taken = 0; replied = 0; refused = 0; state = s }) l p w w
    run_none stop a l w z e = nothing_taken a w (by stop ∙ ap (λ (n : ℕ). ended p s n l) (sym e))
      where
        by : (stop : Bool) → call_to stop p s l (length w) ≡ ended p s (pick (eqb (length l) 0) 0 6) l
        by true = ap (next_rule p s l) (eqb-true (length w) 0 z) ∙ next_unheard p s l g u
        by false = ap (run_rule p s l) (eqb-true (length w) 0 z) ∙ run_unheard p s l g u

  -- what sending asks, and a state with no send in place of this one
  pub send_ready : (w : List ℕ) → 0 < length w
      → (length p ≡ page_length s.core.screen) × ((screen_ok s.core.screen ≡ true) × (GoodSend s.core.screen s.sending × (0 < length w)))
  send_ready w h =
      let r = good_parts p s g in
      let k = possible_parts s r.1 in
      (r.0, (k.core.screen, (ok_good s.core.screen s.core.pending s.sending k.sending, h)))

  pub good_quiet : good p (state_of s.core s.gathered s.setup) ≡ true
  unfolding sending_ok
  good_quiet =
      let r = good_parts p s g in
      let k = possible_parts s r.1 in
      good_whole p (state_of s.core s.gathered s.setup) r.0
      (possible_whole (state_of s.core s.gathered s.setup) record { core = k.core; sending = refl; setup = k.setup })

  -- with room, or outside a send: what is left of it is sent, and then the bytes come
  behind_room : (l : List ℕ) (room : ℕ) → sends s.sending ≡ true → 0 < room
      → run_rule p s l room ≡ behind (sent_by room) (repeated l p (with_sending s (left_by room)) (room - length (sent_by room)))
  unfolding run_rule run_inside goes_on
  behind_room l room u h = rw (g, u, ne_eqb room 0 (omega arith))

  none_sent : (room : ℕ) → s.sending ≡ Sending.Nothing → sent_by room ≡ []
  unfolding sent_from places bytes_of
  none_sent room e = subst (λ (y : Sending). sent_from p s.core y room ≡ []) (sym e) (take-nil room)

  none_left : (room : ℕ) → s.sending ≡ Sending.Nothing → left_by room ≡ s.sending
  unfolding left_from places beyond standing
  none_left room e = subst (λ (y : Sending). left_from p s.core y room ≡ y) (sym e) refl

  behind_none : (stop : Bool) (l : List ℕ) (room : ℕ) → sends s.sending ≡ false
      → call_to stop p s l room ≡ behind (sent_by room) (ran_to stop l p (with_sending s (left_by room)) (room - length (sent_by room)))
  unfolding run_rule next_rule behind
  behind_none true l room u =
      let e = not_sending s.sending u in
      rw (g, u, none_sent room e, none_left room e, sub-zero)
  behind_none false l room u =
      let e = not_sending s.sending u in
      rw (g, u, none_sent room e, none_left room e, sub-zero)

  -- inside a send a run to the first event ends with it
  call_behind : (stop : Bool) (l : List ℕ) (room : ℕ) → (sends s.sending ≡ true → 0 < room) → both stop (sends s.sending) ≡ false
      → call_to stop p s l room ≡ behind (sent_by room) (ran_to stop l p (with_sending s (left_by room)) (room - length (sent_by room)))
  call_behind stop l room h d = by stop (sends s.sending) refl d
    where
      by : (stop t : Bool) → sends s.sending ≡ t → both stop t ≡ false
          → call_to stop p s l room ≡ behind (sent_by room) (ran_to stop l p (with_sending s (left_by room)) (room - length (sent_by room)))
      by true true u d = absurd (false≢true (sym d))
      by false true u d = behind_room l room u (h u)
      by stop false u d = behind_none stop l room u

  inside_event : (l : List ℕ) (room : ℕ) → sends s.sending ≡ true → 0 < room
      → next_rule p s l room ≡ behind (sent_by room) (ended p (with_sending s (left_by room)) 0 l)
  unfolding goes_on
  inside_event l room u h = next_inside_lem p s l room g u h

  module _ {n : ℕ} {y : Sending} {w w₁ : List ℕ} (x : Went p s.core s.sending w n y w₁) (h : sends s.sending ≡ true → 0 < length w) where
    went_size : length (sent_by (length w)) ≡ n
    went_size = sym x.replied

    pub went_fits : n ≤ length w
    went_fits = omega (arith, x.replied, sent_fits p s.core s.sending (length w))

    pub went_long : length w₁ ≡ length w
    unfolding over
    went_long =
        ap length x.room
        ∙ (length-append (sent_by (length w)) (drop (length (sent_by (length w))) w)
        ∙ omega (arith, x.replied, went_fits, length-drop (length (sent_by (length w))) w))

    -- the send is not over, or is the event to stop at
    sent_call : (stop : Bool) (l : List ℕ) → either (sends y) (both stop (sends s.sending)) ≡ true
        → call_to stop p s l (length w) ≡ behind (sent_by (length w)) (ended p (with_sending s (left_by (length w))) 0 l)
    sent_call stop l e = by stop (sends s.sending) (sends y) refl refl e
      where
        waits : sends y ≡ true
            → repeated l p (with_sending s (left_by (length w))) (length w - length (sent_by (length w)))
            ≡ ended p (with_sending s (left_by (length w))) 0 l
        waits v = run_rests l p (with_sending s (left_by (length w))) _ (ap sends (sym x.left) ∙ v)

        by : (stop t v : Bool) → sends s.sending ≡ t → sends y ≡ v → either v (both stop t) ≡ true
            → call_to stop p s l (length w) ≡ behind (sent_by (length w)) (ended p (with_sending s (left_by (length w))) 0 l)
        by true true v u d e = inside_event l (length w) u (h u)
        by true false true u d e = absurd (false≢true (sym (ap sends (x.left ∙ none_left (length w) (not_sending s.sending u)) ∙ u) ∙ d))
        by true false false u d e = absurd (false≢true e)
        by false t true u d e =
            call_behind false l (length w) h refl ∙ ap (behind (sent_by (length w))) (waits d)
        by false t false u d e = absurd (false≢true e)

    pub run_sent : (stop : Bool) (l : List ℕ) → either (sends y) (both stop (sends s.sending)) ≡ true
        → RunDone (call_to stop p s l (length w))
        (record { answer = Answer.Done; taken = 0; replied = n; refused = 0; state = with_sending s y }) l p w w₁
    unfolding behind
    run_sent stop l e =
        rw (sent_call stop l e, ← x.left, append-nil) (record {
          answer = refl;
          taken = refl;
          replied = x.replied;
          refused = refl;
          rest = refl;
          state = refl;
          page = refl;
          room = x.room;
          fits = went_fits;
          within = omega arith;
        })

    -- it is over: the bytes come behind it
    front_is : take n w₁ ≡ sent_by (length w)
    unfolding over
    front_is = ap (take n) x.room ∙ take_at (sent_by (length w)) _ n went_size

    rest_is : drop n w₁ ≡ drop n w
    unfolding over
    rest_is = ap (drop n) x.room ∙ (drop_at (sent_by (length w)) _ n went_size ∙ ap (λ (k : ℕ). drop k w) went_size)

    abbrev bytes : Bool → List ℕ → Ran
    bytes stop l = ran_to stop l p (state_of s.core s.gathered s.setup) (length w₁ - n)

    on_call : (stop : Bool) (l : List ℕ) → either (sends y) (both stop (sends s.sending)) ≡ false
        → call_to stop p s l (length w) ≡ run_behind stop p s.core s.gathered s.setup l w₁ n
    on_call stop l done =
        let none : left_by (length w) ≡ Sending.Nothing = sym x.left ∙ not_sending y (either_left (sends y) _ done) in
        let room : length w - length (sent_by (length w)) ≡ length w₁ - n = omega (arith, went_long, x.replied) in
        call_behind stop l (length w) h (either_right (sends y) _ done)
        ∙ (ap (λ (z : Sending). behind (sent_by (length w)) (ran_to stop l p (with_sending s z) (length w - length (sent_by (length w))))) none
        ∙ ap₂ (λ (a : List ℕ) (k : ℕ). behind a (ran_to stop l p (state_of s.core s.gathered s.setup) k)) (sym front_is) room)

    -- the room behind the replies
    on_rest : (stop : Bool) (l : List ℕ)
        → drop (length (take n w₁ ++ (bytes stop l).reply)) w₁ ≡ drop (length (take n w₁ ++ (bytes stop l).reply)) w
    on_rest stop l =
        let j = length (bytes stop l).reply in
        let size : length (take n w₁ ++ (bytes stop l).reply) ≡ n + j =
        length-append (take n w₁) (bytes stop l).reply ∙ ap (λ (k : ℕ). k + j) (length-take-le n w₁ (omega (arith, went_fits, went_long))) in
        rw size (sym (drop-drop j n w₁) ∙ (ap (drop j) rest_is ∙ drop-drop j n w))

    pub run_on_lem : (stop : Bool) {r : RunResult} {l p' w' : List ℕ} → either (sends y) (both stop (sends s.sending)) ≡ false
        → RunDone (run_behind stop p s.core s.gathered s.setup l w₁ n) r l p' w₁ w' → RunDone (call_to stop p s l (length w)) r l p' w w'
    unfolding behind over
    run_on_lem stop {r} {l} {p'} {w'} done k =
        rw (on_call stop l done) (record {
          answer = k.answer;
          taken = k.taken;
          replied = k.replied;
          refused = k.refused;
          rest = k.rest;
          state = k.state;
          page = k.page;
          room = k.room ∙ ap (λ (v : List ℕ). (take n w₁ ++ (bytes stop l).reply) ++ v) (on_rest stop l);
          fits = omega (arith, k.fits, went_long);
          within = k.within;
        })

-- outside a send nothing is sent
pub none_went : (p : List ℕ) (c : Core) (x : Sending) (w : List ℕ) → x ≡ Sending.Nothing → Went p c x w 0 Sending.Nothing w
unfolding sent_from left_from places bytes_of beyond standing
none_went p c x w e =
    subst (λ (y : Sending). Went p c y w 0 Sending.Nothing w) (sym e)
    (record {
      replied = ap length (sym (take-nil (length w)));
      room = over_none w
          ∙ ap (λ (l : List ℕ). over l w) (sym (take-nil (length w)));
      left = refl;
    })

-- past the test for a send without room there is room in a send
pub has_room : (t : Bool) (n : ℕ) → both t (eqb n 0) ≡ false → t ≡ true → 0 < n
has_room t n e u = omega (arith, eqb-false n 0 (ap (λ (z : Bool). both z (eqb n 0)) (sym u) ∙ e))

-- ---- the single step

by_event : (o : Outcome) {b : ℕ} {p' w w' : List ℕ} {r : RunResult} → eqb (pick o.taken 1 0) 1 ≡ o.taken
    → RunDone (at_event o b []) r (b ∷ []) p' w w'
    → Stepped o (record { answer = r.answer; taken = eqb r.taken 1; replied = r.replied; state = r.state }) p' w w'
unfolding at_event
by_event o e h = record {
  answer = h.answer;
  taken = ap (λ (n : ℕ). eqb n 1) h.taken ∙ e;
  state = h.state;
  replied = h.replied;
  page = h.page;
  room = h.room;
  fits = h.fits;
}

-- the run over its byte to the first event
pub one_byte : (b : ℕ) (p : List ℕ) (s : State) {p' w w' : List ℕ} {r : RunResult}
    → RunDone (next_rule p s (b ∷ []) (length w)) r (b ∷ []) p' w w'
    → Stepped (step_rule p s b (length w)) (record { answer = r.answer; taken = eqb r.taken 1; replied = r.replied; state = r.state }) p' w w'
one_byte b p s {p'} {w} {w'} {r} h =
    of (step_rule p s b (length w)) (subst (λ (o : Ran). RunDone o r (b ∷ []) p' w w') (next_tells.step p s b (length w)) h)
  where
    counted : (t : Bool) → eqb (pick t 1 0) 1 ≡ t
    counted true = refl
    counted false = refl

    of : (o : Outcome) → RunDone (at_event o b []) r (b ∷ []) p' w w'
        → Stepped o (record { answer = r.answer; taken = eqb r.taken 1; replied = r.replied; state = r.state }) p' w w'
    of o h = by_event o (counted o.taken) h

-- ---- the key press

-- a text that was put, and one that does not fit
module _ (l w : List ℕ) where
  pub text_sent : {w' : List ℕ} → length l ≤ length w → w' ≡ over l w → KeySent (sending l (length w)) (Ok (length l)) w w'
  text_sent h r = rw (le-leb _ _ h) (record { answer = refl; done = refl; replied = refl; room = r; fits = h })

  pub text_refused : length w < length l → KeySent (sending l (length w)) (Err Answer.NoRoom) w w
  text_refused h = rw (lt-leb _ _ h) (record { answer = refl; done = refl; replied = refl; room = over_none w; fits = omega arith })

-- an unprogrammed key, and any other
module _ (k : Text 8) (v : ℕ) {r : Result ℕ Answer} {w w' : List ℕ} where
  pub unprogrammed : k.len ≡ 0 → KeySent (sending (0x01 ∷ v ∷ 0x0d ∷ []) (length w)) r w w' → KeySent (sending (key_sends k v) (length w)) r w w'
  unfolding key_sends
  unprogrammed e h = rw e h

  pub programmed : (k.len ≡ 0 → ⊥) → KeySent (sending (short_bytes k) (length w)) r w w' → KeySent (sending (key_sends k v) (length w)) r w w'
  unfolding key_sends
  programmed e h = rw (ne_eqb k.len 0 e) h

-- a press that replies nothing
press_refused : (a : Answer) (w : List ℕ) → nat_eq (number a) 0 ≡ false → KeySent (pressed (number a) []) (Err a) w w
press_refused a w n = record { answer = refl; done = sym n; replied = refl; room = over_none w; fits = omega arith }

module _ (p : List ℕ) (s : State) (v : ℕ) (w : List ℕ) where
  pub press_bad : good p s ≡ false → KeySent (press_rule p s v (length w)) (Err Answer.BadCall) w w
  unfolding press_rule
  press_bad g = rw g (press_refused Answer.BadCall w refl)

  module _ (g : good p s ≡ true) where
    pub press_locked : s.core.modes.locked ≡ true → KeySent (press_rule p s v (length w)) (Err Answer.Locked) w w
    unfolding press_rule
    press_locked l = rw (g, l) (press_refused Answer.Locked w refl)

    module _ (l : s.core.modes.locked ≡ false) where
      pub press_unknown : is_key v ≡ false → KeySent (press_rule p s v (length w)) (Err Answer.BadArgument) w w
      unfolding press_rule
      press_unknown i = rw (g, l, i) (press_refused Answer.BadArgument w refl)

      pub press_waits : is_key v ≡ true → sends s.sending ≡ true
          → KeySent (press_rule p s v (length w)) (Err Answer.NoRoom) w w
      unfolding press_rule
      press_waits i u = rw (g, l, i, u) (press_refused Answer.NoRoom w refl)

      pub press_sends : is_key v ≡ true → sends s.sending ≡ false → {k : Text 8} → k ≡ key_at s v → {r : Result ℕ Answer} {w' : List ℕ}
          → KeySent (sending (key_sends k v) (length w)) r w w' → KeySent (press_rule p s v (length w)) r w w'
      unfolding press_rule
      press_sends i u e h = rw (g, l, i, u, sym e) h

-- a key of a good state holds 8 bytes at most
pub key_size : (p : List ℕ) (s : State) (v : ℕ) → good p s ≡ true → {k : Text 8} → k ≡ key_at s v → k.len ≤ 8
unfolding text_ok all_text
key_size p s v g e =
    rw e (text_parts 0 8 _ _ (texts_at 0 s.setup.keys (key_place v) _ (possible_parts s (good_parts p s g).1).setup.keys refl)).0

-- ---- the room

pub copied_suc : (d s : List ℕ) (j : ℕ) → j < length d → j < length s
    → set (take j s ++ drop j d) j (get_or s j 0) ≡ take (suc j) s ++ drop (suc j) d
copied_suc d s j hd hs =
    ap (λ (r : List ℕ). set (take j s ++ r) j (get_or s j 0)) (drop-cons d j 0 hd)
    ∙ set_at (take j s) (get_or d j 0) (drop (suc j) d) (get_or s j 0) j (length-take-le j s (le_of_lt hs))
    ∙ sym (ap (λ (r : List ℕ). r ++ drop (suc j) d) (take-suc s j 0 hs) ∙ append_snoc (take j s) (get_or s j 0) (drop (suc j) d))

-- ---- which command a reply answers

-- past the test for a count that is 0 or too large
past_end : (l : List ℕ) (i : ℕ) → length l ≤ i → get_or l i 0 ≡ 0
past_end [] i h = refl
past_end (x ∷ l) zero h = absurd (omega arith)
past_end (x ∷ l) (suc i) h = past_end l i (omega arith)

none_there : (l : List ℕ) (taken : ℕ) → (taken ≡ 0) ⊎ ((taken ≡ 0 → ⊥) × (length l < taken)) → 0 ≡ get_or (0 ∷ l) taken 0
none_there l taken (inl e) = rw e
none_there l taken (inr h) = sym (past_end (0 ∷ l) taken (omega (arith, h.1)))

byte_there : (l : List ℕ) (taken : ℕ) → 0 < taken → get_or l (taken - 1) 0 ≡ get_or (0 ∷ l) taken 0
byte_there l zero h = absurd (omega arith)
byte_there l (suc i) h = let e : suc i - 1 ≡ i = omega arith in rw e

module _ (y : Sending) (l : List ℕ) (taken replied : ℕ) where
  pub told_nothing : replied ≡ 0 → 0 ≡ reply_command y l taken replied
  unfolding reply_command
  told_nothing e = rw e

  module _ (n : replied ≡ 0 → ⊥) where
    pub told_send : sends y ≡ true → command_of y ≡ reply_command y l taken replied
    unfolding reply_command
    told_send u = rw (ne_eqb replied 0 n, u)

    module _ (u : sends y ≡ false) where
      pub told_none : (taken ≡ 0) ⊎ ((taken ≡ 0 → ⊥) × (length l < taken)) → 0 ≡ reply_command y l taken replied
      unfolding reply_command
      told_none e = rw (ne_eqb replied 0 n, u) (none_there l taken e)

      pub told_byte : 0 < taken → get_or l (taken - 1) 0 ≡ reply_command y l taken replied
      unfolding reply_command
      told_byte h = rw (ne_eqb replied 0 n, u) (byte_there l taken h)
