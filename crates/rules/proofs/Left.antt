-- What each answer of a step leaves.
--     step_left, step_most, step_good_most, step_unused     an answer other than 0 leaves what the table says; none is above 7, and none is 5
--     page_changed     nothing but answer 0 changes a page
--     step_high     a byte of 80h or above changes nothing, whatever is under way
--     inner_ends     the ways in which a byte ends, on a good page and core
-- Assumes nothing.
use mathlib.Core.Path.{◌≡◌, refl, ap}
use mathlib.Core.Bool.{Bool, true, false}
use mathlib.Core.Logic.{◌⊎◌, inl, inr, ⊎_elim}
use mathlib.Core.List.{List, []}
use Prim.Native.Nat.{ℕ, ◌≤◌}
use native.Mathlib.Omega.{arith}
use lib.Dec.{ltb, eqb}
use borrow.Author.Tests.{le-ltb, ltb-true, eqb-true, eqb-false}
use Rattle.rules.specs.declared.State.{State}
use Rattle.rules.specs.declared.Core.{Core}
use Rattle.rules.specs.declared.Plan.{Plan}
use Rattle.rules.specs.declared.Decoded.{Decoded}
use Rattle.rules.specs.declared.Decoded.TheVariants as Decoded
use Rattle.rules.specs.Cell.{pick, between}
use Rattle.rules.specs.Search.{guarded_at}
use Rattle.rules.specs.State.{number, idle, sends, changed, sending_after, gathered_after, setup_after}
use Rattle.rules.specs.Possible.{pending_ok, good}
use Rattle.rules.specs.Decode.{decode_rule}
use Rattle.rules.specs.Carry.{Effect, quiet, applied, landed, done, begun, carried}
use Rattle.rules.specs.Step.{Outcome, unheard, outcome_of, obeyed, inner_rule, goes_on, step_inside, step_rule}
use Rattle.rules.specs.Theorems.Left.{Left, Unchanged, StepLeft, StepHigh}
use Rattle.rules.proofs.Tests.{pick_if, between_parts}
use Rattle.rules.proofs.Decoding.{decoded_ok, decoded_ok_lem}
use Rattle.rules.proofs.Kept.{good_parts, possible_parts}
use Rattle.rules.proofs.Planned.{Planned, obeys, replies, refuses, planned}

-- how a byte ends: 0; 2 to 4 and the sequence cleared; 1 or 6 and nothing changed
pub data Ended (p : List ℕ) (c : Core) : Effect → Type 0 where
  ends : {e : Effect} → e.answer ≡ 0 → Ended p c e
  clears : (n : ℕ) → between 2 4 n ≡ true → Ended p c (quiet n (idle c) p)
  keeps : (n : ℕ) → between 2 4 n ≡ false → (n ≤ 6) × (n ≡ 5 → ⊥) → Ended p c (quiet n c p)

module _ (p : List ℕ) (c : Core) where
  carried_ends : {n : ℕ} (x : Plan) (room : ℕ) → Planned n (idle c) x → Ended p c (carried p c x room)
  unfolding carried begun done applied landed
  carried_ends x room (obeys e r) = rw (ap sends r) (ends (ap number e))
  carried_ends x room (replies y s k) =
      rw s (pick_if (Ended p c) (eqb room 0) (λ t. keeps 6 refl (omega arith, λ e. omega (arith, e))) (λ t. ends refl))
  carried_ends x room (refuses a e) = clears (number a) e

  module _ (tabs : List Bool) (g : List ℕ) (room : ℕ) where
    obeyed_ends : (d : Decoded) → decoded_ok g d ≡ true → Ended p c (obeyed p c tabs d room)
    unfolding obeyed decoded_ok
    obeyed_ends (Decoded.Wait q) e = ends refl
    obeyed_ends (Decoded.Gather x i b) e = ends refl
    obeyed_ends (Decoded.Take x i) e = ends refl
    obeyed_ends (Decoded.Reject a) e = clears (number a) e
    obeyed_ends (Decoded.Do d) e = carried_ends _ room (planned (idle c) (guarded_at c.modes.protect p) tabs d)

    pub inner_ends : (b : ℕ) → pending_ok c.pending g ≡ true → Ended p c (inner_rule p c tabs b room)
    unfolding inner_rule
    inner_ends b h =
        pick_if (Ended p c) (ltb b 128)
        (λ t. obeyed_ends (decode_rule c.pending b) (decoded_ok_lem c.pending g b (ltb-true b 128 t) h))
        (λ t. keeps 1 refl (omega arith, λ e. omega (arith, e)))

-- ---- the step

module _ (p : List ℕ) (s : State) where
  ended_left : {e : Effect} → Ended p s.core e → (e.answer ≡ 0 → ⊥) → Left p s (outcome_of s e)
  unfolding sending_after gathered_after setup_after changed
  ended_left (ends a) n = absurd (n a)
  ended_left (clears m a) n = record { page = refl; state = rw a; reply = refl }
  ended_left (keeps m a l) n = record { page = refl; state = rw a; reply = refl }

  ended_most : {e : Effect} → Ended p s.core e → e.answer ≤ 6
  ended_most (ends a) = omega (arith, a)
  ended_most (clears m a) = omega (arith, between_parts 2 4 m a)
  ended_most (keeps m a l) = omega (arith, l.0)

  ended_five : {e : Effect} → Ended p s.core e → e.answer ≡ 5 → ⊥
  ended_five (ends a) h = omega (arith, a, h)
  ended_five (clears m a) h = omega (arith, between_parts 2 4 m a, h)
  ended_five (keeps m a l) h = l.1 h

  module _ (b room : ℕ) where
    good_ends : good p s ≡ true → Ended p s.core (inner_rule p s.core s.setup.tabs b room)
    good_ends g = inner_ends p s.core s.setup.tabs s.gathered room b (possible_parts s (good_parts p s g).1).core.pending

    -- what a byte has outside a send, and an answer that leaves all as it is, and answer 0 inside a send: so a step
    by_step : (P : Outcome → Type 0) → ((n : ℕ) → (n ≡ 6) ⊎ (n ≡ 7) → P (unheard n p s)) → P (goes_on p s room)
        → (good p s ≡ true → P (outcome_of s (inner_rule p s.core s.setup.tabs b room))) → P (step_rule p s b room)
    unfolding step_rule step_inside
    by_step P none send byte =
        pick_if P (good p s)
        (λ g. pick_if P (sends s.sending) (λ u. pick_if P (eqb room 0) (λ e. none 6 (inl refl)) (λ e. send)) (λ u. byte g))
        (λ g. none 7 (inr refl))

    -- no answer is above 7
    pub step_most : (step_rule p s b room).answer ≤ 7
    unfolding goes_on
    step_most =
        by_step (λ (o : Outcome). o.answer ≤ 7) (λ n h. ⊎_elim (λ e. omega (arith, e)) (λ e. omega (arith, e)) h) (omega arith)
        (λ g. omega (arith, ended_most (good_ends g)))

    -- nor above 6 on a good page and state
    pub step_good_most : good p s ≡ true → sends s.sending ≡ false → (step_rule p s b room).answer ≤ 6
    unfolding step_rule
    step_good_most g u = rw (g, u) (ended_most (good_ends g))

    -- none is 5
    pub step_unused : (step_rule p s b room).answer ≡ 5 → ⊥
    unfolding goes_on
    step_unused =
        by_step (λ (o : Outcome). o.answer ≡ 5 → ⊥) (λ n h z. ⊎_elim (λ e. omega (arith, e, z)) (λ e. omega (arith, e, z)) h) (λ z. omega (arith, z))
        (λ g. ended_five (good_ends g))

-- an answer other than 0 leaves the page, replies nothing, and leaves of the state what the table says
pub step_left : StepLeft
unfolding goes_on
step_left p s b room =
    by_step p s b room (λ (o : Outcome). (o.answer ≡ 0 → ⊥) → Left p s o) (λ n h z. unheard_left n h) (λ z. absurd (z refl))
    (λ g. ended_left p s (good_ends p s b room g))
  where
    unheard_left : (n : ℕ) → (n ≡ 6) ⊎ (n ≡ 7) → Left p s (unheard n p s)
    unheard_left n (inl e) = rw e record { page = refl; state = refl; reply = refl }
    unheard_left n (inr e) = rw e record { page = refl; state = refl; reply = refl }

-- nothing but answer 0 changes a page
pub page_changed : (p : List ℕ) (s : State) (b room : ℕ) → ((step_rule p s b room).page ≡ p → ⊥) → (step_rule p s b room).answer ≡ 0
page_changed p s b room h = by (eqb (step_rule p s b room).answer 0) refl
  where
    by : (t : Bool) → eqb (step_rule p s b room).answer 0 ≡ t → (step_rule p s b room).answer ≡ 0
    by true e = eqb-true _ _ e
    by false e = absurd (h (step_left p s b room (eqb-false _ _ e)).page)

pub step_high : StepHigh
unfolding step_rule inner_rule sending_after gathered_after setup_after changed
step_high p s b room h u = rw (le-ltb b 128 h, u) (by (good p s))
  where
    by : (t : Bool) → Unchanged (pick t 1 7) p s (pick t (outcome_of s (quiet 1 s.core p)) (unheard 7 p s))
    by true = record { answer = refl; page = refl; state = refl; reply = refl }
    by false = record { answer = refl; page = refl; state = refl; reply = refl }
