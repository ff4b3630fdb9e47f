-- Replies through a narrow line.
--     in_rooms     a stream through rooms of any sizes comes to what one run with their sum gives
--     progress     with any room a call takes a byte or sends one
--     enough_room  with the room of the longest reply a run over some bytes takes one of them, inside a send too
-- Assumes nothing.
use mathlib.Core.Path.{◌≡◌, refl, sym, ap, subst, ◌∙◌}
use mathlib.Core.Bool.{Bool, true, false, false≢true}
use mathlib.Core.Logic.{◌⊎◌, inl, inr, ⊎_elim}
use mathlib.Core.List.{List, [], ◌∷◌, ◌++◌, append_assoc, append-nil}
use Prim.Native.Nat.{ℕ, zero, suc, ◌+◌, ◌-◌, ◌<◌, ◌≤◌}
use native.Mathlib.Nat.{zero-add, add_assoc, suc-add, sub-zero, add-zero}
use native.Mathlib.Omega.{arith}
use lib.Dec.{ltb, eqb}
use lib.ListN.{length, length-append, length-drop, length-take}
use lib.Seq.{take-nil}
use borrow.Author.Tests.{ltb-true, lt-ltb, eqb-true, eqb-false, ne_eqb}
use Rattle.rules.specs.declared.Core.{Core}
use Rattle.rules.specs.declared.State.{State}
use Rattle.rules.specs.declared.Plan.{Plan}
use Rattle.rules.specs.declared.Decoded.{Decoded}
use Rattle.rules.specs.declared.Decoded.TheVariants as Decoded
use Rattle.rules.specs.declared.Pending.TheVariants as Pending
use Rattle.rules.specs.declared.Change.TheVariants as Change
use Rattle.rules.specs.declared.Short.TheVariants as Short
use Rattle.rules.specs.declared.Sending.{Sending}
use Rattle.rules.specs.declared.Sending.TheVariants as Sending
use Rattle.rules.specs.Cell.{pick}
use Rattle.rules.specs.Row.{columns}
use Rattle.rules.specs.State.{number, page_length, awaiting, Inside, idle, sends, with_sending, sending_after, gathered_after, setup_after, changed}
use Rattle.rules.specs.Possible.{good}
use Rattle.rules.specs.Theorems.Good.{GoodSend}
use Rattle.rules.specs.Send.{command_of, places, bytes_of, beyond, standing, sent_from, left_from}
use Rattle.rules.specs.Search.{guarded_at}
use Rattle.rules.specs.Decode.{decode_rule}
use Rattle.rules.specs.Plan.{replying, plan_rule}
use Rattle.rules.specs.Carry.{Effect, effect, quiet, done, begun, carried}
use Rattle.rules.specs.Step.{Outcome, outcome_of, obeyed, inner_rule, goes_on, step_inside, step_rule}
use Rattle.rules.specs.Calls.{Ran, ended, refusal, joined, repeated, behind, run_inside, run_rule}
use Rattle.rules.specs.Theorems.Steps.{Stopped, in_send_lem, no_room, Repeats, Resumes, preceded}
use Rattle.rules.specs.Theorems.Bound.{left_over}
use Rattle.rules.specs.Theorems.Narrow.{sum, fed, Same, Over, InRooms, Progress, EnoughRoom}
use Rattle.rules.proofs.Tests.{pick_if, either_way, between_parts}
use Rattle.rules.proofs.Screens.{screen_inside}
use Rattle.rules.proofs.Sends.{ok_good, not_sending, stands_still, sent_add, left_add, some_left, sent_fits, sent_full, sent_over}
use Rattle.rules.proofs.Good.{PlanKept}
use Rattle.rules.proofs.Decoding.{decoded_ok, decoded_ok_lem}
use Rattle.rules.proofs.Planned.{Planned, obeys, replies, refuses, planned}
use Rattle.rules.proofs.AskedBytes.{asked, asked_byte}
use Rattle.rules.proofs.Kept.{planned_kept, possible_parts, good_parts, step_good, run_good}
use Rattle.rules.proofs.Bound.{step_taken, goes_bounded, within_longest, reply_bound}
use Rattle.rules.proofs.Left.{step_good_most}
use Rattle.rules.proofs.Run.{run_waits, run_stop, run_go, run_done, run_repeats, run_resumes, run_unheard, goes_good}

-- a run, and then another from where it stands
abbrev pub then_run : Ran → ℕ → Ran
then_run r room = preceded r.taken r.refused r.reply (run_rule r.page r.state r.rest room)

pub same_joined : (o : Outcome) (r q : Ran) (b : ℕ) → Same (then_run r b) q → Same (then_run (joined o r) b) (joined o q)
unfolding joined
same_joined o r q b x = record {
  taken = suc-add r.taken _ ∙ ap suc x.taken;
  refused = add_assoc (refusal o.answer) r.refused _ ∙ ap (λ (n : ℕ). refusal o.answer + n) x.refused;
  reply = append_assoc o.reply r.reply _ ∙ ap (λ (l : List ℕ). o.reply ++ l) x.reply;
  rest = x.rest;
  page = x.page;
  state = x.state;
}

pub same_behind : (a : List ℕ) (r q : Ran) (b : ℕ) → Same (then_run r b) q → Same (then_run (behind a r) b) (behind a q)
unfolding behind
same_behind a r q b x = record {
  taken = x.taken;
  refused = x.refused;
  reply = append_assoc a r.reply _ ∙ ap (λ (l : List ℕ). a ++ l) x.reply;
  rest = x.rest;
  page = x.page;
  state = x.state;
}

-- a run over nothing taken, and then a run
pub same_ended : (p : List ℕ) (s : State) (n : ℕ) (bytes : List ℕ) (b : ℕ) → Same (then_run (ended p s n bytes) b) (run_rule p s bytes b)
same_ended p s n bytes b = record { taken = zero-add _; refused = zero-add _; reply = refl; rest = refl; page = refl; state = refl }

pub same_trans : {a b c : Ran} → Same a b → Same b c → Same a c
same_trans x y = record {
  taken = x.taken ∙ y.taken;
  refused = x.refused ∙ y.refused;
  reply = x.reply ∙ y.reply;
  rest = x.rest ∙ y.rest;
  page = x.page ∙ y.page;
  state = x.state ∙ y.state;
}

pub same_refl : (a : Ran) → Same a a
same_refl a = record { taken = refl; refused = refl; reply = refl; rest = refl; page = refl; state = refl }

-- a run that takes no byte, for a send is under way
pub waits : (bytes p : List ℕ) (s : State) (room : ℕ) → sends s.sending ≡ true → repeated bytes p s room ≡ ended p s 0 bytes
waits [] p s room u = run_done p s room
waits (b ∷ bs) p s room u = run_waits b bs p s room u

pub outside : (p : List ℕ) (s : State) (bytes : List ℕ) (room : ℕ) → good p s ≡ true → sends s.sending ≡ false
    → run_rule p s bytes room ≡ repeated bytes p s room
unfolding run_rule
outside p s bytes room g u = rw (g, u)

inside : (p : List ℕ) (s : State) (bytes : List ℕ) (room : ℕ) → good p s ≡ true → sends s.sending ≡ true
    → run_rule p s bytes room ≡ run_inside p s bytes room
unfolding run_rule
inside p s bytes room g u = rw (g, u)

-- nothing under way: nothing is sent
pub nothing_left : (p : List ℕ) (s : State) (room : ℕ) → s.sending ≡ Sending.Nothing → (goes_on p s room).state ≡ s
unfolding goes_on left_from places beyond standing
nothing_left p s room e =
    ap (with_sending s) (subst (λ (y : Sending). left_from p s.core y room ≡ y) (sym e) refl)

nothing_sent : (p : List ℕ) (s : State) (room : ℕ) → s.sending ≡ Sending.Nothing → (goes_on p s room).reply ≡ []
unfolding goes_on sent_from places bytes_of
nothing_sent p s room e = subst (λ (y : Sending). sent_from p s.core y room ≡ []) (sym e) (take-nil room)

-- inside a send with room, and without
pub inside_room : (p : List ℕ) (s : State) (bytes : List ℕ) (room : ℕ) → good p s ≡ true → sends s.sending ≡ true → 0 < room
    → run_rule p s bytes room ≡ behind (goes_on p s room).reply (repeated bytes p (goes_on p s room).state (room - length (goes_on p s room).reply))
unfolding run_rule run_inside
inside_room p s bytes room g u h = rw (g, u, ne_eqb room 0 (omega arith))

pub still : (bytes p : List ℕ) (s : State) → good p s ≡ true → sends s.sending ≡ true → Same (run_rule p s bytes 0) (ended p s 0 bytes)
unfolding run_rule run_inside
still bytes p s g u = rw (g, u) record { taken = refl; refused = refl; reply = refl; rest = refl; page = refl; state = refl }

none_more : (bytes p : List ℕ) (s : State) (x : List ℕ) (m : ℕ) → repeated bytes p s m ≡ ended p s 0 bytes
    → Same (run_rule p s bytes 0) (ended p s 0 bytes)
    → Same (then_run (behind x (repeated bytes p s m)) 0) (behind x (repeated bytes p s m))
none_more bytes p s x m q y = rw q (same_behind x (ended p s 0 bytes) (ended p s 0 bytes) 0 (same_trans (same_ended p s 0 bytes 0) y))

rest_of : (bytes p : List ℕ) (a b : ℕ) (x y z : List ℕ) (s v w : State) → x ++ y ≡ z → v ≡ w → length x ≡ a
    → repeated bytes p s (a - length x) ≡ ended p s 0 bytes → run_rule p s bytes (suc b) ≡ behind y (repeated bytes p v (suc b - length y))
    → Same (then_run (behind x (repeated bytes p s (a - length x))) (suc b)) (behind z (repeated bytes p w (a + suc b - length z)))
unfolding behind
rest_of bytes p a b x y z s v w e f l q r =
    let m : a + suc b - length z ≡ suc b - length y = omega (arith, ap length e, length-append x y, l) in
    rw (q, m, ← f, ← e, r) record {
      taken = zero-add _;
      refused = zero-add _;
      reply = ap (λ (k : List ℕ). k ++ (y ++ (repeated bytes p v (suc b - length y)).reply)) (append-nil x) ∙ sym (append_assoc x y _);
      rest = refl;
      page = refl;
      state = refl;
    }

-- ---- a send, and then bytes

-- from a state t whose send stands at a place of its reply, the first or a later one
module _ (p : List ℕ) (t : State) (n : length p ≡ page_length t.core.screen) (i : Inside t.core.screen)
    (k : GoodSend t.core.screen t.sending) where
  goes_state : (a b : ℕ) → 0 < a → (goes_on p (goes_on p t a).state b).state ≡ (goes_on p t (a + b)).state
  unfolding goes_on
  goes_state a b h = ap (with_sending t) (left_add p t.core n i t.sending k a b h)

  goes_reply : (a b : ℕ) → 0 < a → (goes_on p t a).reply ++ (goes_on p (goes_on p t a).state b).reply ≡ (goes_on p t (a + b)).reply
  unfolding goes_on
  goes_reply a b h = sent_add p t.core n i t.sending k a b h

  goes_fits : (a : ℕ) → length (goes_on p t a).reply ≤ a
  unfolding goes_on
  goes_fits a = sent_fits p t.core t.sending a

  goes_full : (a : ℕ) → 0 < a → sends (goes_on p t a).state.sending ≡ true → length (goes_on p t a).reply ≡ a
  unfolding goes_on
  goes_full a h u = sent_full p t.core n i t.sending k a h u

  -- the send with a room, and then the bytes with what is left of it
  abbrev sent_then : List ℕ → ℕ → Ran
  sent_then bytes a = behind (goes_on p t a).reply (repeated bytes p (goes_on p t a).state (a - length (goes_on p t a).reply))

  -- it is over within the first room
  over_within : (a b : ℕ) → 0 < a → sends (goes_on p t a).state.sending ≡ false
      → ((goes_on p t (a + b)).state ≡ (goes_on p t a).state) × ((goes_on p t (a + b)).reply ≡ (goes_on p t a).reply)
  over_within a b h u =
      let z = not_sending (goes_on p t a).state.sending u in
      (sym (goes_state a b h) ∙ none_state z, sym (goes_reply a b h) ∙ (ap (λ (l : List ℕ). (goes_on p t a).reply ++ l) (none_reply z) ∙ append-nil _))
    where
      none_state : (goes_on p t a).state.sending ≡ Sending.Nothing → (goes_on p (goes_on p t a).state b).state ≡ (goes_on p t a).state
      none_state z = nothing_left p (goes_on p t a).state b z

      none_reply : (goes_on p t a).state.sending ≡ Sending.Nothing → (goes_on p (goes_on p t a).state b).reply ≡ []
      none_reply z = nothing_sent p (goes_on p t a).state b z

  split_over : (bytes : List ℕ) (a b : ℕ) → 0 < a → sends (goes_on p t a).state.sending ≡ false
      → Same (then_run (repeated bytes p (goes_on p t a).state (a - length (goes_on p t a).reply)) b)
      (repeated bytes p (goes_on p t a).state (a - length (goes_on p t a).reply + b))
      → Same (then_run (sent_then bytes a) b) (sent_then bytes (a + b))
  split_over bytes a b h u x =
      let o = over_within a b h u in
      let e : a + b - length (goes_on p t a).reply ≡ a - length (goes_on p t a).reply + b = omega (arith, goes_fits a) in
      rw (o.0, o.1, e) (same_behind (goes_on p t a).reply _ _ b x)

  -- it is not
  split_on : (bytes : List ℕ) (a b : ℕ) → 0 < a → sends (goes_on p t a).state.sending ≡ true → good p (goes_on p t a).state ≡ true
      → Same (then_run (sent_then bytes a) b) (sent_then bytes (a + b))
  split_on bytes a zero h u g =
      rw (add-zero a) (none_more bytes p (goes_on p t a).state (goes_on p t a).reply (a - length (goes_on p t a).reply)
      (waits bytes p (goes_on p t a).state (a - length (goes_on p t a).reply) u) (still bytes p (goes_on p t a).state g u))
  split_on bytes a (suc b) h u g =
      rest_of bytes p a b (goes_on p t a).reply (goes_on p (goes_on p t a).state (suc b)).reply (goes_on p t (a + suc b)).reply
      (goes_on p t a).state (goes_on p (goes_on p t a).state (suc b)).state (goes_on p t (a + suc b)).state
      (goes_reply a (suc b) h) (goes_state a (suc b) h) (goes_full a h u) (waits bytes p (goes_on p t a).state (a - length (goes_on p t a).reply) u)
      (inside_room p (goes_on p t a).state bytes (suc b) g u (omega arith))

-- ---- a byte, with any room

-- t is the state whose send, from its first place, is the reply of a byte
abbrev pub begins : List ℕ → State → ℕ → Outcome
begins p t room =
    record { answer = 0; taken = true; state = (goes_on p t room).state; page = p; reply = (goes_on p t room).reply }

pub data Byte (p : List ℕ) (s : State) (b : ℕ) : Type 0 where
  -- the same whatever the room: it replies nothing
  same : (o : Outcome) → ((room : ℕ) → step_rule p s b room ≡ o) → o.reply ≡ [] → sends o.state.sending ≡ false → eqb o.answer 6 ≡ false
      → Byte p s b
  -- a reply is due
  due : (t : State) → length p ≡ page_length t.core.screen → Inside t.core.screen → GoodSend t.core.screen t.sending
      → (sends t.sending ≡ true) × (command_of t.sending ≡ b) → (step_rule p s b 0).answer ≡ 6
      → ((room : ℕ) → 0 < room → step_rule p s b room ≡ begins p t room) → Byte p s b

none_due : (p : List ℕ) (c d : Core) (y : Sending) → sends y ≡ true → carried p c (replying d y) 0 ≡ quiet 6 c p
unfolding carried
none_due p c d y w = rw w

some_due : (p : List ℕ) (c d : Core) (y : Sending) (room : ℕ) → sends y ≡ true → 0 < room
    → carried p c (replying d y) room ≡ begun p (replying d y) room
unfolding carried
some_due p c d y room w h = rw (w, ne_eqb room 0 (omega arith))

command_some : (y : Sending) → sends y ≡ true → command_of y ≡ 0 → ⊥
command_some Sending.Nothing w e = false≢true w
command_some (Sending.Short Short.Acknowledge n) w e = omega (arith, e)
command_some (Sending.Short Short.Cell n) w e = omega (arith, e)
command_some (Sending.Short Short.Identity n) w e = omega (arith, e)
command_some (Sending.Short Short.Cursor n) w e = omega (arith, e)
command_some (Sending.Short Short.SegmentCursor n) w e = omega (arith, e)
command_some (Sending.Short Short.DecimalCursor n) w e = omega (arith, e)
command_some (Sending.Text true true k) w e = omega (arith, e)
command_some (Sending.Text true false k) w e = omega (arith, e)
command_some (Sending.Text false true k) w e = omega (arith, e)
command_some (Sending.Text false false k) w e = omega (arith, e)

command_is : (y : Sending) → sends y ≡ true → {n b : ℕ} → command_of y ≡ n → (n ≡ 0) ⊎ (n ≡ b) → command_of y ≡ b
command_is y w m (inl e) = absurd (command_some y w (m ∙ e))
command_is y w m (inr e) = m ∙ e

module _ (p : List ℕ) (s : State) (g : good p s ≡ true) (u : sends s.sending ≡ false) (b : ℕ) where
  step_is : (room : ℕ) → step_rule p s b room ≡ outcome_of s (inner_rule p s.core s.setup.tabs b room)
  unfolding step_rule
  step_is room = rw (g, u)

  quiet_inner : (e : Effect) → ((room : ℕ) → inner_rule p s.core s.setup.tabs b room ≡ e) → e.reply ≡ []
      → sends (sending_after e.change s.sending) ≡ false
      → eqb e.answer 6 ≡ false → Byte p s b
  quiet_inner e h r w a = same (outcome_of s e) (λ room. step_is room ∙ ap (outcome_of s) (h room)) r w a

  high_byte : ltb b 128 ≡ false → Byte p s b
  unfolding inner_rule sending_after
  high_byte h = quiet_inner (quiet 1 s.core p) (λ room. rw h) refl u refl

  -- a plan carried out
  carried_byte : {n : ℕ} → (n ≡ 0) ⊎ (n ≡ b) → (x : Plan) → Planned n (idle s.core) x → {t : Bool} → PlanKept t (idle s.core) x
      → ((room : ℕ) → inner_rule p s.core s.setup.tabs b room ≡ carried p s.core x room) → Byte p s b
  unfolding carried begun done sending_after gathered_after setup_after changed goes_on
  carried_byte h x (obeys e r) k is =
      quiet_inner (done s.core.modes.protect p x) (λ room. is room ∙ rw (ap sends r) refl) refl u k.answer
  carried_byte h x (refuses a e) k is = quiet_inner (done s.core.modes.protect p x) (λ room. is room) refl u k.answer
  carried_byte h x (replies y w m) k is =
      due record { core = idle s.core; sending = y; gathered = s.gathered; setup = s.setup } (good_parts p s g).0
      (screen_inside s.core.screen k.good.screen)
      k.good.reply (w, command_is y w m h)
      (ap (λ (o : Outcome). o.answer) (step_is 0 ∙ ap (outcome_of s) (is 0 ∙ none_due p s.core (idle s.core) y w)))
      (λ room h. step_is room ∙ ap (outcome_of s) (is room ∙ some_due p s.core (idle s.core) y room w h))

  ap_asked : {d : Decoded} → decode_rule s.core.pending b ≡ d
      → (asked (decode_rule s.core.pending b) ≡ 0) ⊎ (asked (decode_rule s.core.pending b) ≡ b) → (asked d ≡ 0) ⊎ (asked d ≡ b)
  ap_asked e h = subst (λ (d : Decoded). (asked d ≡ 0) ⊎ (asked d ≡ b)) e h

  low_byte : ltb b 128 ≡ true → (d : Decoded) → decode_rule s.core.pending b ≡ d → decoded_ok s.gathered d ≡ true → Byte p s b
  unfolding inner_rule obeyed sending_after decoded_ok
  low_byte h (Decoded.Wait q) e k = quiet_inner (quiet 0 (awaiting s.core q) p) (λ room. rw (h, e)) refl u refl
  low_byte h (Decoded.Gather x n c) e k =
      quiet_inner (effect 0 (awaiting s.core (Pending.Text x (n + 1))) (Change.Gather n c) p []) (λ room. rw (h, e)) refl u refl
  low_byte h (Decoded.Take x n) e k = quiet_inner (effect 0 (idle s.core) (Change.Take x n) p []) (λ room. rw (h, e)) refl u refl
  low_byte h (Decoded.Reject a) e k =
      quiet_inner (quiet (number a) (idle s.core) p) (λ room. rw (h, e)) refl u
      (ne_eqb (number a) 6 (omega (arith, between_parts 2 4 (number a) k)))
  low_byte h (Decoded.Do d) e k =
      let x = plan_rule (guarded_at s.core.modes.protect p) s.setup.tabs (idle s.core) d in
      carried_byte (ap_asked e (asked_byte s.core.pending b (ltb-true b 128 h))) x
      (planned (idle s.core) (guarded_at s.core.modes.protect p) s.setup.tabs d)
      (planned_kept p s.core (good_parts p s g).0 s.gathered (possible_parts s (good_parts p s g).1).core s.setup.tabs d)
      (λ room. rw (h, e))

  pub byte_is : Byte p s b
  byte_is = by (ltb b 128) refl
    where
      by : (t : Bool) → ltb b 128 ≡ t → Byte p s b
      by true h =
          low_byte h (decode_rule s.core.pending b) refl
          (decoded_ok_lem s.core.pending s.gathered b (ltb-true b 128 h) (possible_parts s (good_parts p s g).1).core.pending)
      by false h = high_byte h

-- ---- a stream

-- a byte that begins a reply, and then the bytes behind it
unfoldable taken_byte : Ran → Ran
taken_byte r = record {
  answer = r.answer;
  taken = suc r.taken;
  refused = r.refused;
  reply = r.reply;
  rest = r.rest;
  state = r.state;
  page = r.page;
}

same_taken : (r q : Ran) (b : ℕ) → Same (then_run r b) q → Same (then_run (taken_byte r) b) (taken_byte q)
unfolding taken_byte
same_taken r q b x = record {
  taken = suc-add r.taken _ ∙ ap suc x.taken;
  refused = x.refused;
  reply = x.reply;
  rest = x.rest;
  page = x.page;
  state = x.state;
}

begun_run : (b : ℕ) (bs p : List ℕ) (s t : State) (room : ℕ) → sends s.sending ≡ false → step_rule p s b room ≡ begins p t room
    → repeated (b ∷ bs) p s room
    ≡ taken_byte (behind (goes_on p t room).reply (repeated bs p (goes_on p t room).state (room - length (goes_on p t room).reply)))
unfolding repeated joined taken_byte behind
begun_run b bs p s t room u e = rw (u, e, zero-add)

quiet_run : (b : ℕ) (bs p : List ℕ) (s : State) (room : ℕ) (o : Outcome) → sends s.sending ≡ false → step_rule p s b room ≡ o → o.reply ≡ []
    → eqb o.answer 6 ≡ false → repeated (b ∷ bs) p s room ≡ joined o (repeated bs o.page o.state room)
unfolding repeated
quiet_run b bs p s room o u e r a =
    let z : room - length o.reply ≡ room = omega (arith, ap length r) in
    rw (u, e, a, z)

module _ (b : ℕ) (bs p : List ℕ) (s : State) (g : good p s ≡ true) (u : sends s.sending ≡ false)
    (ih : (q : List ℕ) (t : State) → good q t ≡ true → sends t.sending ≡ false → (c d : ℕ)
    → Same (then_run (repeated bs q t c) d) (repeated bs q t (c + d))) where
  split_byte : Byte p s b → (c d : ℕ) → Same (then_run (repeated (b ∷ bs) p s c) d) (repeated (b ∷ bs) p s (c + d))
  split_byte (same o is r w a) c d =
      rw (quiet_run b bs p s c o u (is c) r a, quiet_run b bs p s (c + d) o u (is (c + d)) r a)
      (same_joined o _ _ d (ih o.page o.state (subst (λ (z : Outcome). good z.page z.state ≡ true) (is c) (step_good p s b c g)) w c d))
  split_byte (due t n i k m z is) zero d =
      rw (run_stop b bs p s 0 u z, zero-add d) (rw (← (outside p s (b ∷ bs) d g u)) (same_ended p s 6 (b ∷ bs) d))
  split_byte (due t n i k m z is) (suc c) d =
      let h : 0 < suc c = omega arith in
      let l : good p (goes_on p t (suc c)).state
      ≡ true = subst (λ (o : Outcome). good p o.state ≡ true) (is (suc c) h) (good_step (is (suc c) h)) in
      rw (begun_run b bs p s t (suc c) u (is (suc c) h), begun_run b bs p s t (suc c + d) u (is (suc c + d) (omega arith)))
      (same_taken _ _ d (by (sends (goes_on p t (suc c)).state.sending) refl l))
    where
      good_step : step_rule p s b (suc c) ≡ begins p t (suc c) → good p (step_rule p s b (suc c)).state ≡ true
      good_step e = subst (λ (q : List ℕ). good q (step_rule p s b (suc c)).state ≡ true) (ap (λ (o : Outcome). o.page) e)
          (step_good p s b (suc c) g)

      by : (v : Bool) → sends (goes_on p t (suc c)).state.sending ≡ v → good p (goes_on p t (suc c)).state ≡ true
          → Same (then_run (sent_then p t n i k bs (suc c)) d) (sent_then p t n i k bs (suc c + d))
      by true v l = split_on p t n i k bs (suc c) d (omega arith) v l
      by false v l = split_over p t n i k bs (suc c) d (omega arith) v (ih p (goes_on p t (suc c)).state l v _ d)

split_repeated : (bytes p : List ℕ) (s : State) → good p s ≡ true → sends s.sending ≡ false → (c d : ℕ)
    → Same (then_run (repeated bytes p s c) d) (repeated bytes p s (c + d))
split_repeated [] p s g u c d =
    rw (run_done p s c, run_done p s (c + d))
    (same_trans (same_ended p s 0 [] d) (rw (outside p s [] d g u, run_done p s d) (same_refl (ended p s 0 []))))
split_repeated (b ∷ bs) p s g u c d = split_byte b bs p s g u (λ q t h v. split_repeated bs q t h v) (byte_is p s g u b) c d

split_inside : (bytes p : List ℕ) (s : State) → good p s ≡ true → sends s.sending ≡ true → (c d : ℕ)
    → Same (then_run (run_rule p s bytes c) d) (run_rule p s bytes (c + d))
split_inside bytes p s g u zero d =
    rw (zero-add d, run_unheard p s bytes g u) (same_ended p s (pick (eqb (length bytes) 0) 0 6) bytes d)
split_inside bytes p s g u (suc c) d =
    let r = good_parts p s g in
    let w = possible_parts s r.1 in
    let i = screen_inside s.core.screen w.core.screen in
    let k = ok_good s.core.screen s.core.pending s.sending w.sending in
    rw (inside_room p s bytes (suc c) g u (omega arith), inside_room p s bytes (suc c + d) g u (omega arith))
    (by r.0 i k (sends (goes_on p s (suc c)).state.sending) refl (goes_good p s (suc c) g u (omega arith)))
  where
    by : (n : length p ≡ page_length s.core.screen) (i : Inside s.core.screen) (k : GoodSend s.core.screen s.sending) (v : Bool)
        → sends (goes_on p s (suc c)).state.sending ≡ v → good p (goes_on p s (suc c)).state ≡ true
        → Same (then_run (sent_then p s n i k bytes (suc c)) d) (sent_then p s n i k bytes (suc c + d))
    by n i k true v l = split_on p s n i k bytes (suc c) d (omega arith) v l
    by n i k false v l = split_over p s n i k bytes (suc c) d (omega arith) v (split_repeated bytes p (goes_on p s (suc c)).state l v _ d)

-- one room, and then another
pub split_run : (bytes p : List ℕ) (s : State) → good p s ≡ true → (c d : ℕ) → Same (then_run (run_rule p s bytes c) d) (run_rule p s bytes (c + d))
split_run bytes p s g c d = by (sends s.sending) refl
  where
    by : (v : Bool) → sends s.sending ≡ v → Same (then_run (run_rule p s bytes c) d) (run_rule p s bytes (c + d))
    by true u = split_inside bytes p s g u c d
    by false u = rw (outside p s bytes c g u, outside p s bytes (c + d) g u) (split_repeated bytes p s g u c d)

step_inside_lem : (p : List ℕ) (s : State) (b room : ℕ) → good p s ≡ true → sends s.sending ≡ true → step_rule p s b room ≡ step_inside p s room
unfolding step_rule
step_inside_lem p s b room g u = rw (g, u)

step_sends : (p : List ℕ) (s : State) (n : ℕ)
    → ((step_inside p s (suc n)).reply ≡ sent_from p s.core s.sending (suc n)) × ((step_inside p s (suc n)).state ≡ (goes_on p s (suc n)).state)
unfolding step_inside goes_on
step_sends p s n = rw (ne_eqb (suc n) 0 (omega arith)) (refl, refl)

-- without room it stands where it is
stays : (p : List ℕ) (s : State) → good p s ≡ true → sends s.sending ≡ true → (goes_on p s 0).state ≡ s
unfolding goes_on left_from
stays p s g u =
    let w = possible_parts s (good_parts p s g).1 in
    ap (with_sending s) (stands_still p s.core (good_parts p s g).0 (screen_inside s.core.screen w.core.screen) s.core.pending
    s.sending w.sending u)

-- the same first run
pub same_next : (r a b : Ran) → Same a b → Same (preceded r.taken r.refused r.reply a) (preceded r.taken r.refused r.reply b)
same_next r a b x = record {
  taken = ap (λ (n : ℕ). r.taken + n) x.taken;
  refused = ap (λ (n : ℕ). r.refused + n) x.refused;
  reply = ap (λ (l : List ℕ). r.reply ++ l) x.reply;
  rest = x.rest;
  page = x.page;
  state = x.state;
}

fed_as_one : (rooms p : List ℕ) (s : State) (bytes : List ℕ) (room : ℕ) → good p s ≡ true
    → Same (fed rooms p s bytes room) (run_rule p s bytes (room + sum rooms))
unfolding fed sum
fed_as_one [] p s bytes room g = rw (add-zero room) (same_refl (run_rule p s bytes room))
fed_as_one (n ∷ rooms) p s bytes room g =
    let r = run_rule p s bytes room in
    same_trans (same_next r _ _ (fed_as_one rooms r.page r.state r.rest n (run_good p s bytes room g)))
    (split_run bytes p s g room (n + sum rooms))

-- from where nothing is left to do a run does nothing
over_rests : (p : List ℕ) (s : State) (bytes : List ℕ) (room : ℕ) → good p s ≡ true → bytes ≡ [] → sends s.sending ≡ false
    → run_rule p s bytes room ≡ ended p s 0 []
over_rests p s bytes room g e u = rw e (outside p s [] room g u ∙ run_done p s room)

pub over_next : (r : Ran) (room : ℕ) → good r.page r.state ≡ true → Over r → Same r (then_run r room)
over_next r room g o =
    rw (over_rests r.page r.state r.rest room g o.taken o.sent)
    record {
      taken = sym (add-zero r.taken);
      refused = sym (add-zero r.refused);
      reply = sym (append-nil r.reply);
      rest = o.taken;
      page = refl;
      state = refl;
    }

pub same_over : {a b : Ran} → Same a b → Over a → Over b
same_over x o = record { taken = sym x.rest ∙ o.taken; sent = ap (λ (s : State). sends s.sending) (sym x.state) ∙ o.sent }

pub fed_enough : (rooms p : List ℕ) (s : State) (bytes : List ℕ) (room more : ℕ) → good p s ≡ true → Over (fed rooms p s bytes room)
    → Same (fed rooms p s bytes room) (run_rule p s bytes (room + sum rooms + more))
fed_enough rooms p s bytes room more g o =
    let x = fed_as_one rooms p s bytes room g in
    let n = room + sum rooms in
    same_trans x (same_trans (over_next (run_rule p s bytes n) more (run_good p s bytes n g) (same_over x o)) (split_run bytes p s g n more))

-- a run over no bytes inside a send
none_run : (p : List ℕ) (s : State) (room : ℕ) → good p s ≡ true → sends s.sending ≡ true
    → ((run_rule p s [] room).reply ≡ sent_from p s.core s.sending room) × ((run_rule p s [] room).state ≡ (goes_on p s room).state)
unfolding sent_from
none_run p s zero g u = rw (run_unheard p s [] g u) (refl, sym (stays p s g u))
none_run p s (suc n) g u =
    rw (inside_room p s [] (suc n) g u (omega arith), run_done p (goes_on p s (suc n)).state (suc n - length (goes_on p s (suc n)).reply))
    (unfold behind goes_on in (append-nil _, refl))

step_none : (p : List ℕ) (s : State) (b room : ℕ) → good p s ≡ true → sends s.sending ≡ true
    → ((step_rule p s b room).reply ≡ (run_rule p s [] room).reply) × ((step_rule p s b room).state ≡ (run_rule p s [] room).state)
step_none p s b zero g u = rw (step_inside_lem p s b 0 g u, run_unheard p s [] g u) (unfold step_inside in (refl, refl))
step_none p s b (suc n) g u =
    let r = none_run p s (suc n) g u in
    rw (step_inside_lem p s b (suc n) g u, r.0, r.1) (step_sends p s n)

pub in_rooms : InRooms
in_rooms = record {
  as_one = fed_as_one;
  enough = fed_enough;
  sent = λ rooms p s room g u. (fed_as_one rooms p s [] room g).reply ∙ (none_run p s (room + sum rooms) g u).0;
  step = step_none;
}

-- ---- progress

taken_below : (p : List ℕ) (s : State) (b room : ℕ) → good p s ≡ true → sends s.sending ≡ false
    → (step_rule p s b room).taken ≡ ltb (step_rule p s b room).answer 6
unfolding step_rule
taken_below p s b room g u = rw (g, u)

step_moves : (p : List ℕ) (s : State) (b room : ℕ) → good p s ≡ true → 0 < room
    → ((step_rule p s b room).taken ≡ true) ⊎ (0 < length (step_rule p s b room).reply)
step_moves p s b zero g h = absurd (omega arith)
step_moves p s b (suc n) g h = by (sends s.sending) refl
  where
    by : (v : Bool) → sends s.sending ≡ v → ((step_rule p s b (suc n)).taken ≡ true) ⊎ (0 < length (step_rule p s b (suc n)).reply)
    by true u = inr (rw (step_inside_lem p s b (suc n) g u)
        (rw (step_sends p s n).0 (unfold goes_on in (goes_bounded p s g (suc n) u (omega arith)).some)))
    by false u =
        let x = (step_rule p s b (suc n)).answer in
        let l : x < 6 = omega (arith, step_good_most p s b (suc n) g u, eqb-false x 6 (step_taken p s b (suc n) g u (omega arith))) in
        inl (taken_below p s b (suc n) g u ∙ lt-ltb x 6 l)

-- a run takes its first byte
first_taken : (p : List ℕ) (s : State) (bytes : List ℕ) (room : ℕ) → good p s ≡ true → sends s.sending ≡ false → 0 < room → 0 < length bytes
    → 0 < (run_rule p s bytes room).taken
unfolding joined
first_taken p s [] room g u h n = absurd (omega arith)
first_taken p s (b ∷ bs) room g u h n =
    rw (outside p s (b ∷ bs) room g u, run_go b bs p s room u (step_taken p s b room g u h)) (omega arith)

run_moves : (p : List ℕ) (s : State) (bytes : List ℕ) (room : ℕ) → good p s ≡ true → 0 < room → (0 < length bytes) ⊎ (sends s.sending ≡ true)
    → (0 < (run_rule p s bytes room).taken) ⊎ (0 < length (run_rule p s bytes room).reply)
run_moves p s bytes room g h w = by (sends s.sending) refl
  where
    sent : sends s.sending ≡ true
        → 0 < length (behind (goes_on p s room).reply (repeated bytes p (goes_on p s room).state (room - length (goes_on p s room).reply))).reply
    sent u =
        unfold behind in omega (
          arith,
          length-append (goes_on p s room).reply (repeated bytes p (goes_on p s room).state (room - length (goes_on p s room).reply)).reply,
          (goes_bounded p s g room u h).some,
        )

    by : (v : Bool) → sends s.sending ≡ v → (0 < (run_rule p s bytes room).taken) ⊎ (0 < length (run_rule p s bytes room).reply)
    by true u = inr (rw (inside_room p s bytes room g u h) (sent u))
    by false u = inl (first_taken p s bytes room g u h (⊎_elim (λ e. e) (λ e. absurd (false≢true (sym u ∙ e))) w))

-- where a run stops with 0 before its last byte
stopped_inside : (bytes : List ℕ) (room : ℕ) (r : Ran) → Stopped bytes room r → r.answer ≡ 0
    → (sends r.state.sending ≡ true) × (length r.reply ≡ room)
stopped_inside bytes room r (in_send_lem a u f) e = (u, f)
stopped_inside bytes room r (no_room a f) e = absurd (omega (arith, a, e))

bytes_left : (p : List ℕ) (s : State) (bytes : List ℕ) (room : ℕ) (l : List Outcome) (r : Ran) → Repeats p s bytes room l r → 0 < length r.rest
    → r.taken < length bytes
bytes_left p s bytes room l r x h = omega (arith, ap length x.rest, length-drop r.taken bytes)

-- a run inside a send
resumed_stops : (p : List ℕ) (s : State) (bytes : List ℕ) (room : ℕ) (r : Ran) → Resumes p s bytes room r → length (goes_on p s room).reply ≤ room
    → r.answer ≡ 0 → 0 < length r.rest → (sends r.state.sending ≡ true) × (length r.reply ≡ room)
unfolding behind
resumed_stops p s bytes room r x f a h =
    let q = x.bytes_run in
    let b = ap (λ (r : Ran). r.answer) x.whole in
    let c = ap (λ (r : Ran). length r.rest) x.whole in
    let d = bytes_left p (goes_on p s room).state bytes (room - length (goes_on p s room).reply) _ q x.repeats (omega (arith, c)) in
    let y = stopped_inside bytes (room - length (goes_on p s room).reply) q (x.repeats.some d) (sym b ∙ a) in
    rw x.whole (y.0, omega (arith, length-append (goes_on p s room).reply q.reply, y.1))

-- inside one and without room it stops with 6, or has no byte
unheard_stops : (p : List ℕ) (s : State) (bytes : List ℕ) → good p s ≡ true → sends s.sending ≡ true → (run_rule p s bytes 0).answer ≡ 0
    → 0 < length (run_rule p s bytes 0).rest → ⊥
unheard_stops p s bytes g u a h =
    by (eqb (length bytes) 0) refl (rw (run_unheard p s bytes g u) at a) (rw (run_unheard p s bytes g u) at h)
  where
    by : (t : Bool) → eqb (length bytes) 0 ≡ t → ◌≡◌ {A = ℕ} (pick t 0 6) 0 → 0 < length bytes → ⊥
    by true e a h = omega (arith, eqb-true (length bytes) 0 e)
    by false e a h = omega (arith, a)

run_stops : (p : List ℕ) (s : State) (bytes : List ℕ) (room : ℕ) → good p s ≡ true → (run_rule p s bytes room).answer ≡ 0
    → 0 < length (run_rule p s bytes room).rest
    → (sends (run_rule p s bytes room).state.sending ≡ true) × (length (run_rule p s bytes room).reply ≡ room)
run_stops p s bytes zero g a h = by (sends s.sending) refl
  where
    by : (v : Bool) → sends s.sending ≡ v → (sends (run_rule p s bytes 0).state.sending ≡ true) × (length (run_rule p s bytes 0).reply ≡ 0)
    by false u =
        let x = run_repeats p s bytes 0 g u in
        stopped_inside bytes 0 (run_rule p s bytes 0) (x.some (bytes_left p s bytes 0 _ _ x h)) a
    by true u = absurd (unheard_stops p s bytes g u a h)
run_stops p s bytes (suc n) g a h = by (sends s.sending) refl
  where
    by : (v : Bool) → sends s.sending ≡ v
        → (sends (run_rule p s bytes (suc n)).state.sending ≡ true) × (length (run_rule p s bytes (suc n)).reply ≡ suc n)
    by false u =
        let x = run_repeats p s bytes (suc n) g u in
        stopped_inside bytes (suc n) (run_rule p s bytes (suc n)) (x.some (bytes_left p s bytes (suc n) _ _ x h)) a
    by true u =
        resumed_stops p s bytes (suc n) (run_rule p s bytes (suc n)) (run_resumes p s bytes (suc n) g u (omega arith))
        (goes_bounded p s g (suc n) u (omega arith)).fits a h

pub progress : Progress
progress = record { step = step_moves; run = run_moves; stops = run_stops }

-- ---- room enough

module _ (p : List ℕ) (s : State) (g : good p s ≡ true) (u : sends s.sending ≡ true) where
  -- a send under way wants some room, and with as much as it wants it is over
  some_over : 0 < length (left_over p s)
  some_over = some_left p s.core s.core.pending s.sending (possible_parts s (good_parts p s g).1).sending u

  send_over : (room : ℕ) → length (left_over p s) ≤ room → sends (goes_on p s room).state.sending ≡ false
  unfolding goes_on
  send_over room h =
      let r = good_parts p s g in
      let w = possible_parts s r.1 in
      let x = s.core.screen in
      sent_over p s.core r.0 (screen_inside x w.core.screen) s.sending (ok_good x s.core.pending s.sending w.sending) room
      (omega (arith, some_over)) h

  sent_most : (room : ℕ) → length (goes_on p s room).reply ≤ length (left_over p s)
  unfolding goes_on sent_from
  sent_most room = omega (arith, length-take room (left_over p s))

  -- with more, the run goes on to its bytes with some room
  inside_taken : (bytes : List ℕ) (room : ℕ) → 0 < length bytes → length (left_over p s) < room → 0 < (run_rule p s bytes room).taken
  unfolding behind
  inside_taken bytes room n h =
      let x = goes_on p s room in
      let r = room - length x.reply in
      let k = goes_good p s room g u (omega arith) in
      let v = send_over room (omega arith) in
      rw (inside_room p s bytes room g u (omega arith))
      (rw (outside p x.state bytes r k v) at (first_taken p x.state bytes r k v (omega (arith, sent_most room)) n))

  step_ends : (b room : ℕ) → length (left_over p s) ≤ room → sends (step_rule p s b room).state.sending ≡ false
  step_ends b zero h = absurd (omega (arith, some_over))
  step_ends b (suc n) h = rw (step_inside_lem p s b (suc n) g u, (step_sends p s n).1) (send_over (suc n) h)

pub enough_room : EnoughRoom
enough_room = record {
  outside = λ p s bytes room g n u h. first_taken p s bytes room g u h n;
  inside = λ p s bytes room g n u h. inside_taken p s g u bytes room n h;
  takes = λ p s bytes room g n h.
      ⊎_elim (λ u. inside_taken p s g u bytes room n (omega (arith, reply_bound.left p s g u)))
      (λ u. first_taken p s bytes room g u (omega (arith, within_longest s.core.screen.wide)) n) (either_way (sends s.sending));
  ends = λ p s b room g u h. step_ends p s g u b room h;
}
