-- Request A7: what ESC 4 and ESC 5 reply does not depend on the contents of a protected cell. Their plans see no cell, and the text of a
-- reply is the same on related pages.
-- Assumes nothing.
use mathlib.Core.Path.{◌≡◌, refl, sym, ap, subst, ◌∙◌}
use mathlib.Core.Bool.{Bool, true, false, false≢true}
use mathlib.Core.Logic.{◌⊎◌, ⊎_elim}
use mathlib.Core.List.{List}
use Prim.Native.Nat.{ℕ, ◌+◌}
use lib.Dec.{ltb, eqb}
use lib.ListN.{take}
use Rattle.rules.specs.declared.Core.{Core}
use Rattle.rules.specs.declared.State.{State}
use Rattle.rules.specs.declared.Pending.{Pending}
use Rattle.rules.specs.declared.Pending.TheVariants as Pending
use Rattle.rules.specs.declared.Send.{Send}
use Rattle.rules.specs.declared.Send.TheVariants as Send
use Rattle.rules.specs.declared.Command.TheVariants as Command
use Rattle.rules.specs.declared.Decoded.{Decoded}
use Rattle.rules.specs.declared.Decoded.TheVariants as Decoded
use Rattle.rules.specs.declared.Place.{Place}
use Rattle.rules.specs.declared.Place.TheVariants as Place
use Rattle.rules.specs.declared.Sending.{Sending}
use Rattle.rules.specs.declared.Sending.TheVariants as Sending
use Rattle.rules.specs.Cell.{pick}
use Rattle.rules.specs.State.{width_of, cursor_of, text_start, idle, is_idle, sends, with_sending, sending_after}
use Rattle.rules.specs.Possible.{good}
use Rattle.rules.specs.Decode.{lookup, escape_rule, decode_rule}
use Rattle.rules.specs.Send.{Spot, places, bytes_of, beyond, standing, sent_from, left_from}
use Rattle.rules.specs.Plan.{text, send_plan, plan_rule}
use Rattle.rules.specs.Carry.{Effect, begun, carried}
use Rattle.rules.specs.Step.{obeyed, inner_rule, Outcome, unheard, outcome_of, goes_on, step_inside, step_rule}
use Rattle.rules.specs.Theorems.Labels.{Agreeing, LabelsStayIn}
use Rattle.rules.proofs.Sends.{sending_idle}
use Rattle.rules.proofs.Kept.{possible_parts, good_parts}
use Rattle.rules.proofs.Related.{Related, related_length, related_at}
use Rattle.rules.proofs.Noninterference.{start_related}

both_ways : {A : Type 0} (R : A → A → Type 0) (t : Bool) {a b a' b' : A} → R a b → R a' b' → R (pick t a a') (pick t b b')
both_ways R true x y = x
both_ways R false x y = y

-- ESC 4 and ESC 5
data OpenSend : Send → Type 0 where
  of_row : OpenSend Send.OpenRow
  of_segment : OpenSend Send.OpenSegment

-- a text that leaves protected cells out, from a place
module _ {p q : List ℕ} (h : Related p q p q) (c : Core) (segment : Bool) (k : Place) (room : ℕ) where
  same_places : places p c (Sending.Text false segment k) ≡ places q c (Sending.Text false segment k)
  unfolding places
  same_places = related_at (width_of c.screen) (cursor_of c.screen + 1) segment k h

  same_sent : sent_from p c (Sending.Text false segment k) room ≡ sent_from q c (Sending.Text false segment k) room
  unfolding sent_from
  same_sent = ap (λ (l : List Spot). take room (bytes_of l)) same_places

  same_left : left_from p c (Sending.Text false segment k) room ≡ left_from q c (Sending.Text false segment k) room
  unfolding left_from
  same_left = ap (λ (l : List Spot). standing (beyond room l)) same_places

module _ {p q : List ℕ} (h : Related p q p q) (s : State) where
  abbrev Agree : Effect → Effect → Type 0
  Agree a b = Agreeing p q (outcome_of s a) (outcome_of s b)

  begun_agrees : (segment : Bool) (room : ℕ)
      → Agree (begun p (text (idle s.core) false segment) room) (begun q (text (idle s.core) false segment) room)
  unfolding begun sending_after
  begun_agrees segment room =
      let k = Place.Cell (text_start s.core.screen segment) in
      record {
        reply = same_sent h (idle s.core) segment k room;
        answer = refl;
        taken = refl;
        state = rw (same_left h (idle s.core) segment k room);
        first = refl;
        second = refl;
      }

  carried_agrees : (segment : Bool) (room : ℕ)
      → Agree (carried p s.core (text (idle s.core) false segment) room) (carried q s.core (text (idle s.core) false segment) room)
  unfolding carried
  carried_agrees segment room =
      both_ways Agree (eqb room 0) (record { reply = refl; answer = refl; taken = refl; state = refl; first = refl; second = refl })
      (begun_agrees segment room)

  obeyed_agrees : (x : Send) → OpenSend x → (room : ℕ)
      → Agree (obeyed p s.core s.setup.tabs (Decoded.Do (Command.Send x)) room)
      (obeyed q s.core s.setup.tabs (Decoded.Do (Command.Send x)) room)
  unfolding obeyed plan_rule send_plan
  obeyed_agrees Send.OpenRow of_row room = carried_agrees false room
  obeyed_agrees Send.OpenSegment of_segment room = carried_agrees true room
  obeyed_agrees Send.Acknowledge x room = elim x [ ]
  obeyed_agrees Send.Identity x room = elim x [ ]
  obeyed_agrees Send.Cursor x room = elim x [ ]
  obeyed_agrees Send.SegmentCursor x room = elim x [ ]
  obeyed_agrees Send.DecimalCursor x room = elim x [ ]
  obeyed_agrees Send.Cell x room = elim x [ ]

  inner_agrees : (b : ℕ) (x : Send) → OpenSend x → ltb b 128 ≡ true → decode_rule Pending.Escape b ≡ Decoded.Do (Command.Send x)
      → s.core.pending ≡ Pending.Escape → (room : ℕ)
      → Agree (inner_rule p s.core s.setup.tabs b room) (inner_rule q s.core s.setup.tabs b room)
  unfolding inner_rule
  inner_agrees b x o low d e room =
      let told = ap (λ (r : Pending). decode_rule r b) e ∙ d in
      rw (low, told) (obeyed_agrees x o room)

  byte_agrees : (b room : ℕ) → s.core.pending ≡ Pending.Escape → (b ≡ 0x34) ⊎ (b ≡ 0x35)
      → Agree (inner_rule p s.core s.setup.tabs b room) (inner_rule q s.core s.setup.tabs b room)
  unfolding decode_rule escape_rule lookup
  byte_agrees b room e = ⊎_elim
      (λ z. rw z (inner_agrees 0x34 Send.OpenRow of_row refl refl e room))
      (λ z. rw z (inner_agrees 0x35 Send.OpenSegment of_segment refl refl e room))

  good_agrees : good p s ≡ good q s
  unfolding good
  good_agrees = rw (related_length h)

  unheard_agrees : (n : ℕ) → Agreeing p q (unheard n p s) (unheard n q s)
  unheard_agrees n = record { reply = refl; answer = refl; taken = refl; state = refl; first = refl; second = refl }

  -- on a bad page or state both answer 7
  judged : (x y : Outcome) → (good p s ≡ true → Agreeing p q x y)
      → Agreeing p q (pick (good p s) x (unheard 7 p s)) (pick (good q s) y (unheard 7 q s))
  judged x y a = rw (← good_agrees) (by (good p s) a)
    where
      by : (t : Bool) → (t ≡ true → Agreeing p q x y) → Agreeing p q (pick t x (unheard 7 p s)) (pick t y (unheard 7 q s))
      by true a = a refl
      by false a = unheard_agrees 7

  -- after ESC no send is under way
  not_inside : good p s ≡ true → s.core.pending ≡ Pending.Escape → sends s.sending ≡ false
  not_inside g e = by (sends s.sending) refl
    where
      by : (t : Bool) → sends s.sending ≡ t → sends s.sending ≡ false
      by true u =
          absurd (false≢true (sym (ap is_idle e)
          ∙ sending_idle s.core.screen s.core.pending s.sending (possible_parts s (good_parts p s g).1).sending u))
      by false u = u

  step_agrees : (b room : ℕ) → s.core.pending ≡ Pending.Escape → (b ≡ 0x34) ⊎ (b ≡ 0x35) → Agreeing p q (step_rule p s b room) (step_rule q s b room)
  unfolding step_rule
  step_agrees b room e z = judged _ _ (λ g. rw (not_inside g e) (byte_agrees b room e z))

  goes_agrees : (segment : Bool) (k : Place) → s.sending ≡ Sending.Text false segment k → (room : ℕ)
      → Agreeing p q (goes_on p s room) (goes_on q s room)
  unfolding goes_on
  goes_agrees segment k e room =
      record {
        reply = subst (λ (y : Sending). sent_from p s.core y room ≡ sent_from q s.core y room) (sym e) (same_sent h s.core segment k room);
        answer = refl;
        taken = refl;
        state = ap (with_sending s)
            (subst (λ (y : Sending). left_from p s.core y room ≡ left_from q s.core y room) (sym e) (same_left h s.core segment k room));
        first = refl;
        second = refl;
      }

  inside_agrees : (segment : Bool) (k : Place) → s.sending ≡ Sending.Text false segment k → (b room : ℕ)
      → Agreeing p q (step_rule p s b room) (step_rule q s b room)
  unfolding step_rule step_inside
  inside_agrees segment k e b room =
      judged _ _ (λ g. rw (ap sends e) (both_ways (Agreeing p q) (eqb room 0) (unheard_agrees 6) (goes_agrees segment k e room)))

pub labels_stay_in : LabelsStayIn
labels_stay_in = record {
  begins = λ p q s t b room alike e z. rw (← alike.state) (step_agrees (start_related p q alike.pages) s b room e z);
  goes_on_lem = λ p q s t b room segment k alike e. rw (← alike.state) (inside_agrees (start_related p q alike.pages) s segment k e b room);
}
