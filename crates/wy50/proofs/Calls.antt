-- The exported calls, from the promises of the terminal's: refused where the numbers name no state, else the terminal's, in numbers.
--     powered_on, stepped, completed, sent     the terminal's, in numbers, of a bad page or state too: the numbers of a state that is left are left
--     cursor_none, cursor_is     the place of the cursor
--     power_on_refused     a number that is no personality
--     named_bells     a bell count that is named is below 256
--     good_step, good_run     a good page and state answer no 7
--     nothing_done, step_refused, run_refused, press_refused     numbers that name no state
-- Assumes nothing.
use mathlib.Core.Path.{◌≡◌, refl, sym, ap, ap₂, ◌∙◌}
use mathlib.Core.Bool.{Bool, true, false}
use Rattle.std.specs.Prelude.{Ok, Err}
use mathlib.Core.List.{List, [], ◌∷◌}
use Prim.Native.Nat.{ℕ, ◌-◌, ◌<◌}
use native.Mathlib.Omega.{arith}
use borrow.Author.Tests.{ltb-true}
use lib.Dec.{ltb, eqb}
use lib.ListN.{length}
use Rattle.rules.specs.declared.Core.{Core}
use Rattle.rules.specs.declared.State.{State}
use Rattle.rules.specs.declared.PowerOn.{PowerOn}
use Rattle.rules.specs.declared.Position.{Position}
use Rattle.rules.specs.declared.Personality.{Personality}
use Rattle.rules.specs.declared.StepResult.{StepResult}
use Rattle.rules.specs.declared.RunResult.{RunResult}
use Rattle.rules.specs.declared.Answer.{Answer}
use Rattle.rules.specs.Cell.{pick, both}
use Rattle.rules.specs.Room.{over}
use Rattle.rules.specs.State.{number, sends, page_length, cursor_of}
use Rattle.rules.specs.Step.{Outcome, unheard, goes_on, step_inside, step_rule}
use Rattle.rules.specs.Possible.{power_on, good}
use Rattle.rules.specs.Fields.{position_rule}
use Rattle.rules.specs.Carry.{Effect}
use Rattle.rules.specs.Calls.{Ran, ended, joined, repeated, behind, run_inside, power_on_rule, run_rule, press_rule}
use Rattle.rules.proofs.Tests.{pick_if, between_parts}
use Rattle.rules.proofs.Kept.{possible_parts, good_parts}
use Rattle.rules.proofs.Left.{Ended, ends, clears, keeps, inner_ends}
use Rattle.state.proofs.Tests.{both_left, both_right}
use Rattle.terminal.specs.Promise as terminal
use Rattle.wy50.specs.declared.raw.RawState.{RawState}
use Rattle.wy50.specs.declared.raw.RawStep.{RawStep}
use Rattle.wy50.specs.declared.raw.RawRun.{RawRun}
use Rattle.wy50.specs.Raw.{all_below, flag, is_personality, personality_at, are_flags, is_sequence, is_sending}
use Rattle.wy50.specs.Raw.{packed, unpacked, named}
use Rattle.wy50.specs.Promise.{raw_good, raw_possible, raw_cursor, fresh_numbers, raw_power_on, raw_step, raw_ran, bad_run, raw_run, raw_press, PoweredOn}
use Rattle.wy50.specs.Promise.{RawOutcome, RawRan, raw, bad_step, step_numbers, run_numbers, Stepped, RunDone, Sent}
use Rattle.wy50.proofs.RoundTrip.{packed_unpacked}

pub not_good : (t : Bool) → (t ≡ true → ⊥) → t ≡ false
not_good true h = absurd (h refl)
not_good false h = refl

pub named_bells : (x : RawState) → named x ≡ true → x.bells < 256
unfolding named
named_bells x h =
    let r = both (is_sequence x.sequence)
    (both (is_sending x.sending)
    (both (all_below 2 x.tabs)
    (both (both (ltb x.shifted 2) (both (ltb x.wish 2) (ltb x.screen.wide 2))) (is_personality x.personality)))) in
    ltb-true x.bells 256 (both_left (ltb x.bells 256) r (both_right (are_flags x.modes) (both (ltb x.bells 256) r) h))

-- ---- a good page and state answer no 7

ended_seven : {p : List ℕ} {c : Core} {e : Effect} → Ended p c e → e.answer ≡ 7 → ⊥
ended_seven (ends a) h = omega (arith, a, h)
ended_seven (clears m a) h = omega (arith, between_parts 2 4 m a, h)
ended_seven (keeps m a l) h = omega (arith, l.0, h)

pub good_step : (p : List ℕ) (s : State) (b room : ℕ) → good p s ≡ true → (step_rule p s b room).answer ≡ 7 → ⊥
unfolding step_rule step_inside goes_on
good_step p s b room g e =
    pick_if (λ (o : Outcome). o.answer ≡ 7 → ⊥) (sends s.sending)
    (λ u. pick_if (λ (o : Outcome). o.answer ≡ 7 → ⊥) (eqb room 0) (λ t z. omega (arith, z)) (λ t z. omega (arith, z)))
    (λ u. ended_seven (inner_ends p s.core s.setup.tabs s.gathered room b (possible_parts s (good_parts p s g).1).core.pending))
    (rw g at e)

repeated_seven : (bytes p : List ℕ) (s : State) (room : ℕ) → (repeated bytes p s room).answer ≡ 7 → ⊥
unfolding repeated joined
repeated_seven [] p s room e = omega (arith, e)
repeated_seven (b ∷ bytes) p s room z =
    pick_if (λ (r : Ran). r.answer ≡ 7 → ⊥) (sends s.sending) (λ u e. omega (arith, e))
    (λ u. pick_if (λ (r : Ran). r.answer ≡ 7 → ⊥) (eqb (step_rule p s b room).answer 6) (λ t e. omega (arith, e))
    (λ t. repeated_seven bytes (step_rule p s b room).page (step_rule p s b room).state (room - length (step_rule p s b room).reply))) z

inside_seven : (p : List ℕ) (s : State) (l : List ℕ) (room : ℕ) → (run_inside p s l room).answer ≡ 7 → ⊥
unfolding run_inside behind
inside_seven p s l room z =
    pick_if (λ (r : Ran). r.answer ≡ 7 → ⊥) (eqb room 0)
    (λ t. pick_if (λ (n : ℕ). n ≡ 7 → ⊥) (eqb (length l) 0) (λ u e. omega (arith, e)) (λ u e. omega (arith, e)))
    (λ t. repeated_seven l p (goes_on p s room).state (room - length (goes_on p s room).reply)) z

pub good_run : (p : List ℕ) (s : State) (l : List ℕ) (room : ℕ) → good p s ≡ true → (run_rule p s l room).answer ≡ 7 → ⊥
unfolding run_rule
good_run p s l room g e =
    pick_if (λ (r : Ran). r.answer ≡ 7 → ⊥) (sends s.sending) (λ u. inside_seven p s l room) (λ u. repeated_seven l p s room) (rw g at e)

-- ---- a bad page or state: all goes back as it came, the numbers too

pub raw_good_lem : (p : List ℕ) (x : RawState) {t : Bool} → named x ≡ true → good p (unpacked x) ≡ t → raw_good p x ≡ t
unfolding raw_good
raw_good_lem p x on g = rw (on, g)

bad_state : (p : List ℕ) (x : RawState) → named x ≡ true → raw_good p x ≡ false → good p (unpacked x) ≡ false
bad_state p x on g = sym (raw_good_lem p x on refl) ∙ g

-- what a refusal leaves goes back as it came
pub left_back : (x : RawState) {s : State} → named x ≡ true → (t : Bool) → (t ≡ false → s ≡ unpacked x) → packed x s ≡ pick t (packed x s) x
left_back x on true h = refl
left_back x on false h = ap (packed x) (h refl) ∙ packed_unpacked x on

-- a bad step, and a bad run, of a state that its numbers name
pub unheard_is : (p : List ℕ) (x : RawState) → named x ≡ true → raw (packed x (unpacked x)) (unheard 7 p (unpacked x)) ≡ bad_step p x
unheard_is p x on = ap (λ (y : RawState). raw y (unheard 7 p (unpacked x))) (packed_unpacked x on)

pub ended_is : (p : List ℕ) (x : RawState) (l : List ℕ) → named x ≡ true → raw_ran x (ended p (unpacked x) 7 l) ≡ bad_run p x l
ended_is p x l on =
    ap (λ (y : RawState). record { answer = 7; taken = 0; refused = 0; reply = []; rest = l; state = y; page = p }) (packed_unpacked x on)

pub bad_step_is : (p : List ℕ) (s : State) (b room : ℕ) → good p s ≡ false → step_rule p s b room ≡ unheard 7 p s
unfolding step_rule
bad_step_is p s b room g = rw g

pub bad_run_is : (p : List ℕ) (s : State) (l : List ℕ) (room : ℕ) → good p s ≡ false → run_rule p s l room ≡ ended p s 7 l
unfolding run_rule
bad_run_is p s l room g = rw g

-- so the step and the run are the terminal's, in numbers, whether they are good or bad
abbrev pub step_in : RawState → Outcome → RawOutcome
step_in x o = raw (packed x o.state) o

step_named : (p : List ℕ) (x : RawState) (b room : ℕ) → named x ≡ true → raw_step p x b room ≡ step_in x (step_rule p (unpacked x) b room)
unfolding raw_step
step_named p x b room on =
    pick_if (λ (o : RawOutcome). o ≡ step_in x (step_rule p (unpacked x) b room)) (raw_good p x) (λ g. refl)
    (λ g. sym (ap (step_in x) (bad_step_is p (unpacked x) b room (bad_state p x on g)) ∙ unheard_is p x on))

run_named : (p : List ℕ) (x : RawState) (l : List ℕ) (room : ℕ) → named x ≡ true → raw_run p x l room ≡ raw_ran x (run_rule p (unpacked x) l room)
unfolding raw_run
run_named p x l room on =
    pick_if (λ (o : RawRan). o ≡ raw_ran x (run_rule p (unpacked x) l room)) (raw_good p x) (λ g. refl)
    (λ g. sym (ap (raw_ran x) (bad_run_is p (unpacked x) l room (bad_state p x on g)) ∙ ended_is p x l on))

-- ---- the cursor

pub cursor_none : (x : RawState) → raw_possible x ≡ false → record { answer = 7; row = 0; column = 0 } ≡ raw_cursor x
unfolding raw_cursor
cursor_none x e = rw e

pub cursor_is : (x : RawState) {n at : ℕ} {r : Position} → r ≡ position_rule n at → raw_possible x ≡ true → n ≡ page_length (unpacked x).core.screen
    → at ≡ cursor_of (unpacked x).core.screen → r ≡ raw_cursor x
unfolding raw_cursor
cursor_is x h e f g = h ∙ (ap₂ position_rule f g ∙ rw e)

-- ---- the calls

-- a number that is no personality
pub power_on_refused : (m : ℕ) (p : List ℕ) {s : State} {y : RawState} → is_personality m ≡ false → s ≡ power_on Personality.Wy50 → y ≡ fresh_numbers s
    → PoweredOn (raw_power_on m p) (record { answer = 7; state = y }) p
unfolding raw_power_on
power_on_refused m p off e s = rw off (record { answer = refl; state = rw (s, e); page = refl })

pub powered_on : (m : ℕ) (p : List ℕ) {k : Personality} {t : PowerOn} {p' : List ℕ} {n : ℕ} {y : RawState} → is_personality m ≡ true
    → k ≡ personality_at m → terminal.PoweredOn (power_on_rule k p) t p' → n ≡ number t.answer → y ≡ fresh_numbers t.state
    → PoweredOn (raw_power_on m p) (record { answer = n; state = y }) p'
unfolding raw_power_on
powered_on m p on e h a s = rw (on, ← e) (record { answer = a ∙ h.answer; state = rw (s, h.state); page = h.page })

-- a step and a run of the terminal's
pub numbered_step : (x : RawState) {o : Outcome} {t : StepResult} {p' w w' : List ℕ} → terminal.Stepped o t p' w w'
    → Stepped (step_in x o) (step_numbers x t) p' w w'
numbered_step x h = record {
  answer = h.answer;
  taken = ap flag h.taken;
  state = ap (packed x) h.state;
  replied = h.replied;
  page = h.page;
  room = h.room;
  fits = h.fits;
}

pub numbered_run : (x : RawState) {o : Ran} {t : RunResult} {l p' w w' : List ℕ} → terminal.RunDone o t l p' w w'
    → RunDone (raw_ran x o) (run_numbers x t) l p' w w'
numbered_run x h = record {
  answer = h.answer;
  taken = h.taken;
  replied = h.replied;
  refused = h.refused;
  rest = h.rest;
  state = ap (packed x) h.state;
  page = h.page;
  room = h.room;
  fits = h.fits;
  within = h.within;
}

module _ (p : List ℕ) (x : RawState) (w : List ℕ) {s : State} {p' w' : List ℕ} (on : named x ≡ true) (e : s ≡ unpacked x) where
  pub stepped : (b : ℕ) {t : StepResult} {r : RawStep} → terminal.Stepped (step_rule p s b (length w)) t p' w w' → r ≡ step_numbers x t
      → Stepped (raw_step p x b (length w)) r p' w w'
  stepped b h f = rw (f, step_named p x b (length w) on, ← e) (numbered_step x h)

  pub completed : (l : List ℕ) {t : RunResult} {r : RawRun} → terminal.RunDone (run_rule p s l (length w)) t l p' w w' → r ≡ run_numbers x t
      → RunDone (raw_run p x l (length w)) r l p' w w'
  completed l h f = rw (f, run_named p x l (length w) on, ← e) (numbered_run x h)

module _ (p : List ℕ) (x : RawState) (v : ℕ) (w : List ℕ) {s : State} {w' : List ℕ} (on : named x ≡ true) (e : s ≡ unpacked x) where
  pub sent : {n : ℕ} → terminal.KeySent (press_rule p s v (length w)) (Ok n) w w'
      → Sent (raw_press p x v (length w)) (record { answer = 0; replied = n }) w w'
  unfolding raw_press
  sent h = rw (on, ← e) (record { answer = h.answer; replied = h.replied; room = h.room; fits = h.fits })

  pub unsent : {a : Answer} {n : ℕ} → terminal.KeySent (press_rule p s v (length w)) (Err a) w w' → n ≡ number a
      → Sent (raw_press p x v (length w)) (record { answer = n; replied = 0 }) w w'
  unfolding raw_press
  unsent h z = rw (on, ← e) (record { answer = z ∙ h.answer; replied = h.replied; room = h.room; fits = h.fits })

-- numbers that name no state
pub nothing_done : (p : List ℕ) (x : RawState) (l w : List ℕ)
    → RunDone (bad_run p x l) (record { answer = 7; taken = 0; replied = 0; refused = 0; state = x }) l p w w
unfolding over
nothing_done p x l w = record {
  answer = refl;
  taken = refl;
  replied = refl;
  refused = refl;
  rest = refl;
  state = refl;
  page = refl;
  room = refl;
  fits = omega arith;
  within = omega arith;
}

module _ (p : List ℕ) (x : RawState) (bad : raw_good p x ≡ false) (w : List ℕ) where
  pub step_refused : (b : ℕ) → Stepped (raw_step p x b (length w)) (record { answer = 7; taken = 0; replied = 0; state = x }) p w w
  unfolding raw_step over
  step_refused b = rw bad (record { answer = refl; taken = refl; state = refl; replied = refl; page = refl; room = refl; fits = omega arith })

  pub run_refused : (l : List ℕ) → RunDone (raw_run p x l (length w)) (record { answer = 7; taken = 0; replied = 0; refused = 0; state = x }) l p w w
  unfolding raw_run
  run_refused l = rw bad (nothing_done p x l w)

pub unnamed_bad : (p : List ℕ) (x : RawState) → named x ≡ false → raw_good p x ≡ false
unfolding raw_good
unnamed_bad p x off = rw off

pub press_refused : (p : List ℕ) (x : RawState) → named x ≡ false → (w : List ℕ) (v : ℕ)
    → Sent (raw_press p x v (length w)) (record { answer = 7; replied = 0 }) w w
unfolding raw_press over
press_refused p x off w v = rw off (record { answer = refl; replied = refl; room = refl; fits = omega arith })
