-- No reply exceeds a byte for each cell and one for each row, 1,944 or 3,192 by the width, and no reply of a key press 8.
--     inner_bounded     the inner step on a good page and core: its reply fits the room and the bound, with any room it does not answer 6, and a
--                       reply that does not end uses the room up
--     goes_bounded      the same of a send that goes on, which sends a byte at least
--     reply_most, reply_fits, press_bound     of any page and state: a bad one replies nothing
--     reply_bound       the longest reply, that some reply is as long, and that of one under way less is left
--     step_taken, step_full, step_begins     on a good page and state, outside a send
-- Assumes nothing.
use mathlib.Core.Path.{◌≡◌, refl, sym, ap, subst, ◌∙◌}
use mathlib.Core.Bool.{Bool, true, false, false≢true}
use mathlib.Core.List.{List, [], ◌∷◌}
use Prim.Native.Nat.{ℕ, ◌+◌, ◌-◌, ◌*◌, ◌≤◌, ◌<◌}
use native.Mathlib.Omega.{arith}
use lib.Dec.{ltb, leb, eqb}
use lib.ListN.{length, length-take, replicate}
use borrow.Author.Tests.{ltb-true, eqb-true, eqb-false, ne_eqb}
use Rattle.rules.specs.declared.Core.{Core}
use Rattle.rules.specs.declared.Screen.{Screen}
use Rattle.rules.specs.declared.Text.{Text}
use Rattle.rules.specs.declared.Setup.{Setup}
use Rattle.rules.specs.declared.State.{State}
use Rattle.rules.specs.declared.Pending.TheVariants as Pending
use Rattle.rules.specs.declared.Sending.{Sending}
use Rattle.rules.specs.declared.Sending.TheVariants as Sending
use Rattle.rules.specs.declared.Plan.{Plan}
use Rattle.rules.specs.declared.Decoded.{Decoded}
use Rattle.rules.specs.declared.Decoded.TheVariants as Decoded
use Rattle.rules.specs.Row.{columns, height}
use Rattle.rules.specs.State.{number, width_of, page_length, segment_top, cursor_of, key_place, awaiting, idle, sends, sending_after}
use Rattle.rules.specs.Arguments.{is_attribute, feature_place, is_key}
use Rattle.rules.specs.Slot.{all_text, text_ok, texts_ok}
use Rattle.rules.specs.Possible.{power_on, unsplit_ok, screen_ok, attributes_ok, features_ok, no_stops, pending_ok, remembered_ok, sending_ok, core_ok}
use Rattle.rules.specs.Possible.{setup_ok, possible, good}
use Rattle.rules.specs.Decode.{lookup, escape_rule, decode_rule}
use Rattle.rules.specs.Plan.{excluded_plan, plan_rule}
use Rattle.rules.specs.Send.{cell_place, text_places, follows_left_out, text_at, places, bytes_of, sent_from}
use Rattle.rules.specs.Carry.{Effect, done, begun, carried}
use Rattle.rules.specs.Step.{obeyed, inner_rule, Outcome, goes_on, step_inside, step_rule}
use Rattle.rules.specs.Calls.{key_sends, key_at, Pressed, press_rule}
use Rattle.rules.specs.Theorems.Bound.{longest, ReplyBound}
use Rattle.rules.specs.Cases.Inputs.{placed_on}
use Rattle.rules.proofs.Tests.{pick_if, between_parts}
use Rattle.rules.proofs.Screens.{screen_inside}
use Rattle.rules.proofs.Sends.{ok_good, not_sending, sent_fits, sent_bound, left_bound, sent_some, sent_full}
use Rattle.rules.proofs.Good.{PlanKept}
use Rattle.rules.proofs.Texts.{text_parts, texts_at}
use Rattle.rules.proofs.Decoding.{decoded_ok, decoded_ok_lem}
use Rattle.rules.proofs.Kept.{PossibleCore, planned_kept, possible_parts, good_parts}

-- ---- the inner step

-- the longest reply
abbrev pub most_reply : Screen → ℕ
most_reply x = 24 * (width_of x + 1)

-- what holds of the reply of a byte on a good page and core, x being its screen
pub record Bounded (x : Screen) (room : ℕ) (e : Effect) : Type 0 where
  pub fits : length e.reply ≤ room
  pub bound : length e.reply ≤ most_reply x
  pub taken : 0 < room → eqb e.answer 6 ≡ false
  -- a reply that begins and does not end uses the room up
  pub full : sends (sending_after e.change Sending.Nothing) ≡ true → length e.reply ≡ room
  pub some : sends (sending_after e.change Sending.Nothing) ≡ true → 0 < room

silent : {x : Screen} {room : ℕ} {e : Effect} → length e.reply ≡ 0 → eqb e.answer 6 ≡ false
    → sends (sending_after e.change Sending.Nothing) ≡ false
    → Bounded x room e
silent z a s = record {
  fits = omega arith;
  bound = omega arith;
  taken = λ r. a;
  full = λ t. absurd (false≢true (sym s ∙ t));
  some = λ t. absurd
      (false≢true (sym s ∙ t));
}

module _ (p : List ℕ) (c : Core) (n : length p ≡ page_length c.screen) (g : List ℕ) (h : PossibleCore c g) where
  begun_bounded : {t : Bool} (x : Plan) (room : ℕ) → PlanKept t (idle c) x → 0 < room → Bounded c.screen room (begun p x room)
  unfolding begun sending_after
  begun_bounded x room k r =
      let i = screen_inside x.next.screen k.good.screen in
      record {
        fits = sent_fits p x.next x.reply room;
        bound = omega (arith, sent_bound p x.next i x.reply k.good.reply room, ap columns k.wide);
        taken = λ r. k.answer;
        full = sent_full p x.next (n ∙ ap (λ (b : Bool). 24 * columns b) (sym k.wide)) i x.reply k.good.reply room r;
        some = λ t. r;
      }

  carried_bounded : {t : Bool} (x : Plan) (room : ℕ) → PlanKept t (idle c) x → Bounded c.screen room (carried p c x room)
  unfolding carried done sending_after
  carried_bounded x room k =
      pick_if (Bounded c.screen room) (sends x.reply)
      (λ d. pick_if (Bounded c.screen room) (eqb room 0)
      (λ e. record {
        fits = omega arith;
        bound = omega arith;
        taken = λ r. absurd (omega (arith, eqb-true room 0 e));
        full = λ t. absurd (false≢true t);
        some = λ t. absurd (false≢true t);
      })
      (λ e. begun_bounded x room k (omega (arith, eqb-false room 0 e))))
      (λ d. silent refl k.answer refl)

  obeyed_bounded : (tabs : List Bool) (d : Decoded) (room : ℕ) → decoded_ok g d ≡ true → Bounded c.screen room (obeyed p c tabs d room)
  unfolding obeyed decoded_ok sending_after
  obeyed_bounded tabs (Decoded.Wait q) room e = silent refl refl refl
  obeyed_bounded tabs (Decoded.Gather x i b) room e = silent refl refl refl
  obeyed_bounded tabs (Decoded.Take x i) room e = silent refl refl refl
  obeyed_bounded tabs (Decoded.Reject a) room e = silent refl (ne_eqb (number a) 6 (omega (arith, between_parts 2 4 (number a) e))) refl
  obeyed_bounded tabs (Decoded.Do d) room e = carried_bounded _ room (planned_kept p c n g h tabs d)

  pub inner_bounded : (tabs : List Bool) (b room : ℕ) → Bounded c.screen room (inner_rule p c tabs b room)
  unfolding inner_rule sending_after
  inner_bounded tabs b room =
      pick_if (Bounded c.screen room) (ltb b 128)
      (λ e. obeyed_bounded tabs (decode_rule c.pending b) room
      (decoded_ok_lem c.pending g b (ltb-true b 128 e) h.pending))
      (λ e. silent refl refl refl)

-- ---- the calls

-- what holds of the reply of a send that goes on
pub record Resumed (p : List ℕ) (s : State) (room : ℕ) : Type 0 where
  pub fits : length (goes_on p s room).reply ≤ room
  pub bound : length (goes_on p s room).reply ≤ most_reply s.core.screen
  pub some : 0 < length (goes_on p s room).reply
  pub full : sends (goes_on p s room).state.sending ≡ true → length (goes_on p s room).reply ≡ room

module _ (p : List ℕ) (s : State) (g : good p s ≡ true) where
  step_bounded : (b room : ℕ) → Bounded s.core.screen room (inner_rule p s.core s.setup.tabs b room)
  step_bounded b room =
      let r = good_parts p s g in
      inner_bounded p s.core r.0 s.gathered (possible_parts s r.1).core s.setup.tabs b room

  pub goes_bounded : (room : ℕ) → sends s.sending ≡ true → 0 < room → Resumed p s room
  unfolding goes_on
  goes_bounded room u h =
      let r = good_parts p s g in
      let w = possible_parts s r.1 in
      let x = s.core.screen in
      let k = ok_good x s.core.pending s.sending w.sending in
      let i = screen_inside x w.core.screen in
      record {
        fits = sent_fits p s.core s.sending room;
        bound = sent_bound p s.core i s.sending k room;
        some = sent_some p s.core s.core.pending s.sending room w.sending u h;
        full = sent_full p s.core r.0 i s.sending k room h;
      }

module _ (p : List ℕ) (s : State) (b room : ℕ) where
  -- of any page and state: a property of replies that a byte's effect has, a send that goes on, and none at all
  by_call : (P : List ℕ → Type 0) → P [] → (good p s ≡ true → P (inner_rule p s.core s.setup.tabs b room).reply)
      → (good p s ≡ true → sends s.sending ≡ true → 0 < room → P (goes_on p s room).reply) → P (step_rule p s b room).reply
  unfolding step_rule step_inside
  by_call P none byte send =
      pick_if Q (good p s)
      (λ g. pick_if Q (sends s.sending)
      (λ u. pick_if Q (eqb room 0) (λ e. none) (λ e. send g u (omega (arith, eqb-false room 0 e)))) (λ u. byte g))
      (λ g. none)
    where
      Q : Outcome → Type 0
      Q o = P o.reply

  reply_most : length (step_rule p s b room).reply ≤ most_reply s.core.screen
  reply_most =
      by_call (λ (l : List ℕ). length l ≤ most_reply s.core.screen) (omega arith) (λ g. (step_bounded p s g b room).bound)
      (λ g u h. (goes_bounded p s g room u h).bound)

  pub reply_fits : length (step_rule p s b room).reply ≤ room
  reply_fits =
      by_call (λ (l : List ℕ). length l ≤ room) (omega arith) (λ g. (step_bounded p s g b room).fits) (λ g u h. (goes_bounded p s g room u h).fits)

  -- outside a send
  pub step_taken : good p s ≡ true → sends s.sending ≡ false → 0 < room → eqb (step_rule p s b room).answer 6 ≡ false
  unfolding step_rule
  step_taken g u h = rw (g, u) ((step_bounded p s g b room).taken h)

  begins : good p s ≡ true → sends s.sending ≡ false → sends (step_rule p s b room).state.sending ≡ true
      → sends (sending_after (inner_rule p s.core s.setup.tabs b room).change Sending.Nothing) ≡ true
  unfolding step_rule
  begins g u h = by (not_sending s.sending u) (rw (g, u) at h)
    where
      by : s.sending ≡ Sending.Nothing → sends (sending_after (inner_rule p s.core s.setup.tabs b room).change s.sending) ≡ true
          → sends (sending_after (inner_rule p s.core s.setup.tabs b room).change Sending.Nothing) ≡ true
      by e t = subst (λ (y : Sending). sends (sending_after (inner_rule p s.core s.setup.tabs b room).change y) ≡ true) e t

  -- where a byte leaves a send under way, it has used the room up, and has replied
  pub step_full : good p s ≡ true → sends s.sending ≡ false → sends (step_rule p s b room).state.sending ≡ true
      → length (step_rule p s b room).reply ≡ room
  unfolding step_rule
  step_full g u h = rw (g, u) ((step_bounded p s g b room).full (begins g u h))

  pub step_begins : good p s ≡ true → sends s.sending ≡ false → sends (step_rule p s b room).state.sending ≡ true
      → 0 < length (step_rule p s b room).reply
  step_begins g u h = omega (arith, step_full g u h, (step_bounded p s g b room).some (begins g u h))

-- ---- the longest reply

pub within_longest : (wide : Bool) → 24 * (columns wide + 1) ≤ longest wide
unfolding longest columns
within_longest true = omega arith
within_longest false = omega arith

-- ESC has come, and the cursor is in the last cell
last_cell : Bool → State
last_cell wide =
    let s = placed_on wide 0 0 (height * columns wide - 1) 0 in
    record { core = awaiting s.core Pending.Escape; sending = s.sending; gathered = s.gathered; setup = s.setup }

-- ESC 7 there, on a page of nulls
whole_page_lem : (wide : Bool) → length (step_rule (replicate (height * columns wide) 0) (last_cell wide) 0x37 (longest wide)).reply ≡ longest wide
unfolding longest columns last_cell placed_on power_on cursor_of segment_top step_rule good possible core_ok screen_ok unsplit_ok remembered_ok pending_ok sending_ok
    setup_ok texts_ok text_ok all_text attributes_ok is_attribute features_ok feature_place no_stops inner_rule decode_rule escape_rule lookup obeyed plan_rule
    excluded_plan carried begun sent_from places text_at text_places cell_place follows_left_out bytes_of
whole_page_lem true = refl
whole_page_lem false = refl

pub reply_bound : ReplyBound
reply_bound = record {
  most = λ p s b room. omega (arith, reply_most p s b room, within_longest s.core.screen.wide);
  reached = λ wide. record {
    page = replicate (height * columns wide) 0;
    state = last_cell wide;
    byte = 0x37;
    room = longest wide;
    width = unfold last_cell placed_on in refl;
    count = whole_page_lem wide;
  };
  left = λ p s g u.
      let w = possible_parts s (good_parts p s g).1 in
      let i = screen_inside s.core.screen w.core.screen in
      omega (arith, left_bound p s.core i s.core.pending s.sending w.sending, within_longest s.core.screen.wide);
}

-- ---- a key press

key_bound : (k : Text 8) (v : ℕ) → text_ok 0 8 k.len k.bytes ≡ true → length (key_sends k v) ≤ 8
unfolding key_sends
key_bound k v h =
    pick_if (λ (l : List ℕ). length l ≤ 8) (eqb k.len 0) (λ e. omega arith)
    (λ e. omega (arith, length-take k.len k.bytes, (text_parts 0 8 k.len k.bytes h).0))

pub press_bound : (p : List ℕ) (s : State) (v room : ℕ) → length (press_rule p s v room).reply ≤ 8
unfolding press_rule text_ok all_text
press_bound p s v room =
    pick_if P (good p s)
    (λ g. pick_if P s.core.modes.locked (λ e. omega arith)
    (λ e. pick_if P (is_key v)
    (λ k. pick_if P (sends s.sending) (λ u. omega arith)
    (λ u. pick_if P (leb (length (key_sends (key_at s v) v)) room) (λ f. key_bound (key_at s v) v (key_at_ok g)) (λ f. omega arith)))
    (λ k. omega arith)))
    (λ g. omega arith)
  where
    P : Pressed → Type 0
    P r = length r.reply ≤ 8

    key_at_ok : good p s ≡ true → text_ok 0 8 (key_at s v).len (key_at s v).bytes ≡ true
    key_at_ok g = texts_at 0 s.setup.keys (key_place v) _ (possible_parts s (good_parts p s g).1).setup.keys refl
