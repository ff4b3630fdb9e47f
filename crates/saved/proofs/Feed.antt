-- Bytes that a terminal takes in silence, from power-on: each answers 0, and none replies.
--     Fed, fed_append, fed_run              the relation; bytes after bytes; it is the run
--     waits, gathers, takes, sets, goes     one byte, by what it comes to
-- Assumes nothing.
use mathlib.Core.Path.{◌≡◌, refl, sym, ap, ◌∙◌}
use mathlib.Core.Bool.{Bool, true, false, not}
use mathlib.Core.List.{List, [], ◌∷◌, ◌++◌}
use Prim.Native.Nat.{ℕ, suc, ◌+◌, ◌-◌, ◌<◌, ◌≤◌}
use native.Mathlib.Nat.{sub-zero}
use native.Mathlib.Omega.{arith}
use lib.ListN.{length, get_or, take, set}
use borrow.Author.Tests.{lt-ltb, le-leb}
use Rattle.rules.specs.declared.Core.{Core}
use Rattle.rules.specs.declared.State.{State}
use Rattle.rules.specs.declared.Screen.{Screen}
use Rattle.rules.specs.declared.Setup.{Setup}
use Rattle.rules.specs.declared.Slot.{Slot}
use Rattle.rules.specs.declared.Personality.{Personality}
use Rattle.rules.specs.declared.Command.{Command}
use Rattle.rules.specs.declared.Move.TheVariants as Move
use Rattle.rules.specs.declared.Decoded.{Decoded}
use Rattle.rules.specs.declared.Pending.{Pending}
use Rattle.rules.specs.declared.Sending.TheVariants as Sending
use Rattle.rules.specs.declared.SetupChange.{SetupChange}
use Rattle.rules.specs.Cell.{among}
use Rattle.rules.specs.Row.{columns}
use Rattle.rules.specs.State.{with_screen, with_cursor, awaiting, segment_top, segment_bottom, changed, stored, sends, sending_after, gathered_after}
use Rattle.rules.specs.State.{setup_after}
use Rattle.rules.specs.Search.{guarded_at, others, settled}
use Rattle.rules.specs.Possible.{power_on, good}
use Rattle.rules.specs.Decode.{decode_rule}
use Rattle.rules.specs.Plan.{changing, settling, address_plan, move_plan, plan_rule}
use Rattle.rules.specs.Carry.{quiet, applied, landed, done, carried}
use Rattle.rules.specs.Step.{Outcome, outcome_of, obeyed, inner_rule, step_rule}
use Rattle.rules.specs.Calls.{Ran, joined, repeated, run_rule}
use Rattle.rules.proofs.Tests.{both_true}
use Rattle.rules.proofs.Kept.{step_good}
use Rattle.rules.proofs.Searching.{hit, around_here, length_guards, length_others, guard_at, open_at}

-- ---- the relation

-- the step where page and state are good; and one that answers 0 without a reply, and leaves the page
abbrev pub inner : List ℕ → State → ℕ → ℕ → Outcome
inner p s b room = outcome_of s (inner_rule p s.core s.setup.tabs b room)

abbrev pub quietly : List ℕ → State → Outcome
quietly p s = record { answer = 0; taken = true; state = s; page = p; reply = [] }

-- the run of n bytes, all taken with answer 0 and without a reply
abbrev pub took : ℕ → List ℕ → State → Ran
took n p s = record { answer = 0; taken = n; refused = 0; reply = []; rest = []; state = s; page = p }

-- the bytes lead from a state to a state, whatever the room; no send is under way
pub data Fed (p : List ℕ) : List ℕ → State → State → Type 0 where
  none : {s : State} → sends s.sending ≡ false → Fed p [] s s
  byte : {b : ℕ} {bs : List ℕ} {s t z : State} → sends s.sending ≡ false → ((room : ℕ) → inner p s b room ≡ quietly p t) → Fed p bs t z
      → Fed p (b ∷ bs) s z

unsent : {p bytes : List ℕ} {s t : State} → Fed p bytes s t → sends s.sending ≡ false
unsent (none u) = u
unsent (byte u e x) = u

pub fed_append : {p a b : List ℕ} {s t z : State} → Fed p a s t → Fed p b t z → Fed p (a ++ b) s z
fed_append (none u) y = y
fed_append (byte u e x) y = byte u e (fed_append x y)

module _ (b : ℕ) (p : List ℕ) (s : State) (room : ℕ) {t : State} (u : sends s.sending ≡ false) where
  step_fed : good p s ≡ true → ((room : ℕ) → inner p s b room ≡ quietly p t) → step_rule p s b room ≡ quietly p t
  unfolding step_rule
  step_fed g e = rw (g, u) (e room)

  next_fed : (bs : List ℕ) {n : ℕ} {z : State} → step_rule p s b room ≡ quietly p t → repeated bs p t room ≡ took n p z
      → repeated (b ∷ bs) p s room ≡ took (suc n) p z
  unfolding repeated joined
  next_fed bs e h = rw (u, e, sub-zero, h)

  next_good : good p s ≡ true → step_rule p s b room ≡ quietly p t → good p t ≡ true
  next_good g e = rw e at (step_good p s b room g)

fed_repeated : {p bytes : List ℕ} {s t : State} (room : ℕ) → good p s ≡ true → Fed p bytes s t → repeated bytes p s room ≡ took (length bytes) p t
unfolding repeated
fed_repeated room g (none u) = refl
fed_repeated {p = p} room g (byte {b} {bs} {s} {t} u e x) =
    let f = step_fed b p s room u g e in
    next_fed b p s room u bs f (fed_repeated room (next_good b p s room u g f) x)

-- on a good page and state it is the run
pub fed_run : {bytes p : List ℕ} {s t : State} (room : ℕ) → good p s ≡ true → Fed p bytes s t → run_rule p s bytes room ≡ took (length bytes) p t
unfolding run_rule
fed_run room g x = rw (g, unsent x) (fed_repeated room g x)

-- ---- the states on the way

-- a power-on screen with its cursor elsewhere; its core, with a sequence under way; and the state
abbrev pub screen_at : ℕ → Screen
screen_at i = record { wide = false; active = 0; split = 0; cursor0 = i; cursor1 = 0 }

abbrev pub core_at : Personality → ℕ → Pending → Core
core_at m i q = awaiting (with_screen (power_on m).core (screen_at i)) q

abbrev pub state_at : Personality → ℕ → Pending → List ℕ → Setup → State
state_at m i q g u = record { core = core_at m i q; sending = Sending.Nothing; gathered = g; setup = u }

-- ---- one byte

module _ (m : Personality) {i : ℕ} {g : List ℕ} {u : Setup} {p : List ℕ} {q : Pending} (b : ℕ) (h : b < 128) where
  pub waits : {bs : List ℕ} {z : State} {r : Pending} → decode_rule q b ≡ Decoded.Wait r → Fed p bs (state_at m i r g u) z
      → Fed p (b ∷ bs) (state_at m i q g u) z
  unfolding inner_rule obeyed sending_after gathered_after setup_after changed
  waits {r = r} e f =
      let j : (room : ℕ) → inner p (state_at m i q g u) b room ≡ quietly p (state_at m i r g u) = λ room. rw (lt-ltb b 128 h, e) in
      byte refl j f

  pub gathers : {bs : List ℕ} {z : State} {x : Slot} {n : ℕ} → decode_rule q b ≡ Decoded.Gather x n b
      → Fed p bs (state_at m i (Pending.Text x (n + 1)) (set g n b) u) z → Fed p (b ∷ bs) (state_at m i q g u) z
  unfolding inner_rule obeyed sending_after gathered_after setup_after changed
  gathers {x = x} {n = n} e f =
      let j : (room : ℕ) → inner p (state_at m i q g u) b room ≡ quietly p (state_at m i (Pending.Text x (n + 1)) (set g n b) u) =
      λ room. rw (lt-ltb b 128 h, e) in
      byte refl j f

  pub takes : {x : Slot} {n : ℕ} → decode_rule q b ≡ Decoded.Take x n
      → Fed p (b ∷ []) (state_at m i q g u) (state_at m i Pending.Idle g (stored x (take n g) u))
  unfolding inner_rule obeyed sending_after gathered_after setup_after changed
  takes {x} {n} e =
      let j : (room : ℕ) → inner p (state_at m i q g u) b room ≡ quietly p (state_at m i Pending.Idle g (stored x (take n g) u)) =
      λ room. rw (lt-ltb b 128 h, e) in
      byte refl j (none refl)

  -- a command that changes the set-up alone
  pub sets : (d : Command) (y : SetupChange) → decode_rule q b ≡ Decoded.Do d
      → plan_rule (guarded_at false p) u.tabs (core_at m i Pending.Idle) d ≡ changing (core_at m i Pending.Idle) y
      → Fed p (b ∷ []) (state_at m i q g u) (state_at m i Pending.Idle g (changed y u))
  unfolding inner_rule obeyed carried done landed applied sending_after gathered_after setup_after power_on
  sets d y e f =
      let j : (room : ℕ) → inner p (state_at m i q g u) b room ≡ quietly p (state_at m i Pending.Idle g (changed y u)) =
      λ room. rw (lt-ltb b 128 h, e, f) in
      byte refl j (none refl)

-- ---- the byte that ends ESC = and its row

-- an open cell: settling stays there
settled_open : (g : List Bool) (first end i : ℕ) → i < end → end ≤ length g → get_or g i false ≡ false → settled g first end i ≡ i
settled_open g first end i h k e =
    let t : get_or (others g) i false ≡ true = open_at g i (omega arith) ∙ ap not e in
    sym (around_here (others g) first end i (sym (hit (others g) i end h (omega (arith, length_others g)) refl t)) h)

-- with protect mode off no cell is guarded
settled_free : (p : List ℕ) (i : ℕ) → length p ≡ 1920 → i < 1920 → settled (guarded_at false p) 0 1920 i ≡ i
settled_free p i size h =
    settled_open (guarded_at false p) 0 1920 i h (omega (arith, length_guards false p)) (guard_at false p i (omega arith))

module _ (m : Personality) (i : ℕ) (g : List ℕ) (u : Setup) (p : List ℕ) (size : length p ≡ 1920) (k : ℕ) (h : k < 80) where
  address : plan_rule (guarded_at false p) u.tabs (core_at m i Pending.Idle) (Command.Go (Move.Address 0x20 (0x20 + k)))
      ≡ settling (core_at m i Pending.Idle) k
  unfolding plan_rule move_plan address_plan segment_top segment_bottom columns
  address =
      let t : among 0x20 80 (0x20 + k) ≡ true = both_true (le-leb 0x20 (0x20 + k) (omega arith)) (lt-ltb (0x20 + k) 0x70 (omega arith)) in
      let e : 0 + (0x20 + k - 0x20) ≡ k = omega arith in
      rw (t, e)

  settles : (room : ℕ) → carried p (core_at m i (Pending.AddressRow 0x20)) (settling (core_at m i Pending.Idle) k) room
      ≡ quiet 0 (core_at m k Pending.Idle) p
  unfolding carried done landed applied segment_top segment_bottom with_cursor columns power_on
  settles room = rw (settled_free p k size (omega arith))

  pub goes : Fed p ((0x20 + k) ∷ []) (state_at m i (Pending.AddressRow 0x20) g u) (state_at m k Pending.Idle g u)
  unfolding inner_rule obeyed decode_rule sending_after gathered_after setup_after changed power_on
  goes =
      let j : (room : ℕ) → inner p (state_at m i (Pending.AddressRow 0x20) g u) (0x20 + k) room ≡ quietly p (state_at m k Pending.Idle g u) =
      λ room. rw (lt-ltb (0x20 + k) 128 (omega arith), address, settles room) in
      byte refl j (none refl)
