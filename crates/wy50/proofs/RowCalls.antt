-- The exported calls with a row list, from the promises of the terminal's.
--     rows_stepped, rows_completed     the terminal's, in numbers, of a bad page, state or list too
--     step_unnamed, run_unnamed     numbers that name no state
--     listed_after     the list after a call
--     rebuilt_named, rebuilt_unnamed     the rebuild
-- Assumes nothing.
use mathlib.Core.Path.{◌≡◌, refl, sym, ap, ◌∙◌}
use mathlib.Core.Bool.{true, false, false≢true}
use mathlib.Core.List.{List}
use Prim.Native.Nat.{ℕ}
use native.Mathlib.Omega.{arith}
use lib.ListN.{length}
use Rattle.rules.specs.declared.State.{State}
use Rattle.rules.specs.declared.StepResult.{StepResult}
use Rattle.rules.specs.declared.RunResult.{RunResult}
use Rattle.rules.specs.Cell.{pick}
use Rattle.rules.specs.Room.{over}
use Rattle.rules.specs.Possible.{good}
use Rattle.rules.specs.Step.{Outcome, unheard}
use Rattle.rules.specs.Calls.{Ran, ended}
use Rattle.rules.specs.RowList.{rows_of, agrees}
use Rattle.rules.specs.RowCalls.{step_rows_rule, run_rows_rule, rows_after, rebuild_answer, rebuilt}
use Rattle.rules.proofs.Kept.{possible_parts, good_parts, step_good, run_good}
use Rattle.rules.proofs.RowSteps.{equal_results, same_is}
use Rattle.rules.proofs.Tests.{pick_if}
use Rattle.state.proofs.Tests.{both_left, both_right}
use Rattle.terminal.specs.Promise as terminal
use Rattle.wy50.specs.declared.raw.RawState.{RawState}
use Rattle.wy50.specs.declared.raw.RawStep.{RawStep}
use Rattle.wy50.specs.declared.raw.RawRun.{RawRun}
use Rattle.wy50.specs.Raw.{numbers, gathered_back, packed, unpacked, named}
use Rattle.wy50.specs.Promise.{raw_good, RawOutcome, RawRan, raw_ran, step_numbers, run_numbers, Stepped, RunDone}
use Rattle.wy50.specs.Rows.{raw_listed, raw_step_rows, raw_run_rows, raw_rows_after, raw_can_rebuild, raw_rebuild_answer, raw_rebuilt}
use Rattle.wy50.proofs.RoundTrip.{possible_fits, unpacked_numbers}
use Rattle.wy50.proofs.Calls.{not_good, raw_good_lem, step_in, unheard_is, ended_is, bad_step_is, bad_run_is, numbered_step, numbered_run}
use Rattle.wy50.proofs.Calls.{nothing_done}

-- the row list of a good state, by its numbers
pub numbers_rows : (b p : List ℕ) (s : State) → good p s ≡ true → rows_of p (unpacked (numbers b s)) ≡ rows_of p s
numbers_rows b p s g =
    let w = possible_parts s (good_parts p s g).1 in
    ap (rows_of p) (unpacked_numbers b s (possible_fits s.core.screen s.core.pending s.sending w.sending))

listed_true : (p l : List ℕ) (x : RawState) → raw_good p x ≡ true → agrees l p (unpacked x) ≡ true → raw_listed p l x ≡ true
unfolding raw_listed
listed_true p l x g e = rw (g, e)

-- a list that agrees, beside a page and numbers that are not good with it
listed_bad : (p l : List ℕ) (x : RawState) → named x ≡ true → raw_listed p l x ≡ false → agrees l p (unpacked x) ≡ true
    → good p (unpacked x) ≡ false
listed_bad p l x on k a = not_good (good p (unpacked x)) (λ g. false≢true (sym k ∙ listed_true p l x (raw_good_lem p x on g) a))

-- ---- refused

unnamed : (p l : List ℕ) (x : RawState) → named x ≡ false → raw_listed p l x ≡ false
unfolding raw_listed raw_good
unnamed p l x off = rw off

module _ (p l : List ℕ) (x : RawState) (w : List ℕ) (bad : raw_listed p l x ≡ false) where
  rows_left : (p' : List ℕ) (y : RawState) → l ≡ raw_rows_after p l x p' y
  unfolding raw_rows_after
  rows_left p' y = rw bad

  step_refused : (b : ℕ)
      → Stepped (raw_step_rows p l x b (length w)) (record { answer = 7; taken = 0; replied = 0; state = x }) p w w × (l ≡ raw_rows_after p l x p x)
  unfolding raw_step_rows over
  step_refused b =
      (rw bad (record { answer = refl; taken = refl; state = refl; replied = refl; page = refl; room = refl; fits = omega arith }), rows_left p x)

  run_refused : (i : List ℕ)
      → RunDone (raw_run_rows p l x i (length w)) (record { answer = 7; taken = 0; replied = 0; refused = 0; state = x }) i p w w
      × (l ≡ raw_rows_after p l x p x)
  unfolding raw_run_rows
  run_refused i = (rw bad (nothing_done p x i w), rows_left p x)

module _ (p l : List ℕ) (x : RawState) (w : List ℕ) (off : named x ≡ false) where
  pub step_unnamed : (b : ℕ)
      → Stepped (raw_step_rows p l x b (length w)) (record { answer = 7; taken = 0; replied = 0; state = x }) p w w × (l ≡ raw_rows_after p l x p x)
  step_unnamed b = step_refused p l x w (unnamed p l x off) b

  pub run_unnamed : (i : List ℕ)
      → RunDone (raw_run_rows p l x i (length w)) (record { answer = 7; taken = 0; replied = 0; refused = 0; state = x }) i p w w
      × (l ≡ raw_rows_after p l x p x)
  run_unnamed i = run_refused p l x w (unnamed p l x off) i

-- ---- named

listed_agrees : (p l : List ℕ) (x : RawState) → raw_listed p l x ≡ true → agrees l p (unpacked x) ≡ true
unfolding raw_listed
listed_agrees p l x k = both_right (raw_good p x) (agrees l p (unpacked x)) k

listed_good : (p l : List ℕ) (x : RawState) → raw_listed p l x ≡ true → good p (unpacked x) ≡ true
unfolding raw_listed raw_good
listed_good p l x k = both_right (named x) (good p (unpacked x)) (both_left (raw_good p x) (agrees l p (unpacked x)) k)

-- the step and the run are the terminal's, in numbers, whether the page, the state and the list are good or bad
step_named : (p l : List ℕ) (x : RawState) (b room : ℕ) → named x ≡ true
    → raw_step_rows p l x b room ≡ step_in x (step_rows_rule p l (unpacked x) b room)
unfolding raw_step_rows step_rows_rule
step_named p l x b room on =
    let u = unpacked x in
    let bad : raw_listed p l x ≡ false → step_rows_rule p l u b room ≡ unheard 7 p u = λ k.
    pick_if (λ (o : Outcome). o ≡ unheard 7 p u) (agrees l p u) (λ a. bad_step_is p u b room (listed_bad p l x on k a)) (λ a. refl) in
    pick_if (λ (o : RawOutcome). o ≡ step_in x (step_rows_rule p l u b room)) (raw_listed p l x)
    (λ k. sym (ap (step_in x) (equal_results.step p l u b room (listed_agrees p l x k))))
    (λ k. sym (ap (step_in x) (bad k) ∙ unheard_is p x on))

run_named : (p l : List ℕ) (x : RawState) (i : List ℕ) (room : ℕ) → named x ≡ true
    → raw_run_rows p l x i room ≡ raw_ran x (run_rows_rule p l (unpacked x) i room)
unfolding raw_run_rows run_rows_rule
run_named p l x i room on =
    let u = unpacked x in
    let bad : raw_listed p l x ≡ false → run_rows_rule p l u i room ≡ ended p u 7 i = λ k.
    pick_if (λ (o : Ran). o ≡ ended p u 7 i) (agrees l p u) (λ a. bad_run_is p u i room (listed_bad p l x on k a)) (λ a. refl) in
    pick_if (λ (o : RawRan). o ≡ raw_ran x (run_rows_rule p l u i room)) (raw_listed p l x)
    (λ k. sym (ap (raw_ran x) (equal_results.run p l u i room (listed_agrees p l x k))))
    (λ k. sym (ap (raw_ran x) (bad k) ∙ ended_is p x i on))

-- what a step and a run leave: a good page and state, or the bad ones as they were
abbrev pub Leaves : List ℕ → State → List ℕ → State → Type 0
Leaves p s p' s' = (good p s ≡ true → good p' s' ≡ true) × (good p s ≡ false → (p' ≡ p) × (s' ≡ s))

step_leaves : (p l : List ℕ) (s : State) (b room : ℕ) → let o = step_rows_rule p l s b room in Leaves p s o.page o.state
unfolding step_rows_rule
step_leaves p l s b room =
    pick_if (λ (o : Outcome). Leaves p s o.page o.state) (agrees l p s)
    (λ a. (step_good p s b room, λ g. rw (bad_step_is p s b room g) (refl, refl))) (λ a. (λ g. g, λ g. (refl, refl)))

run_leaves : (p l : List ℕ) (s : State) (i : List ℕ) (room : ℕ) → let o = run_rows_rule p l s i room in Leaves p s o.page o.state
unfolding run_rows_rule
run_leaves p l s i room =
    pick_if (λ (o : Ran). Leaves p s o.page o.state) (agrees l p s)
    (λ a. (run_good p s i room, λ g. rw (bad_run_is p s i room g) (refl, refl))) (λ a. (λ g. g, λ g. (refl, refl)))

-- so the list after it is that of the numbers
pub listed_after : (p l : List ℕ) (x : RawState) → named x ≡ true → (p' : List ℕ) (s' : State) → Leaves p (unpacked x) p' s'
    → rows_after p l (unpacked x) p' s' ≡ raw_rows_after p l x p' (packed x s')
unfolding rows_after raw_rows_after
listed_after p l x on p' s' h =
    let u = unpacked x in
    let left : good p u ≡ false → agrees l p u ≡ true → rows_of p' s' ≡ l = λ g a.
    rw ((h.1 g).0, (h.1 g).1) (sym (same_is l (rows_of p u) a)) in
    pick_if (λ (r : List ℕ). pick (agrees l p u) (rows_of p' s') l ≡ r) (raw_listed p l x)
    (λ k. rw (listed_agrees p l x k) (sym (numbers_rows (gathered_back x s') p' s' (h.0 (listed_good p l x k)))))
    (λ k. pick_if (λ (r : List ℕ). r ≡ l) (agrees l p u) (λ a. left (listed_bad p l x on k a) a) (λ a. refl))

module _ (p l : List ℕ) (x : RawState) (w : List ℕ) {s : State} {p' w' l' : List ℕ} (on : named x ≡ true) (e : s ≡ unpacked x) where
  pub rows_stepped : (b : ℕ) {t : StepResult} {r : RawStep} → terminal.Stepped (step_rows_rule p l s b (length w)) t p' w w'
      → l' ≡ rows_after p l s p' t.state → r ≡ step_numbers x t
      → Stepped (raw_step_rows p l x b (length w)) r p' w w' × (l' ≡ raw_rows_after p l x p' r.state)
  rows_stepped b {t} h k f =
      let h' = rw e at h in
      let leaves : Leaves p (unpacked x) p' t.state = rw (h'.page, h'.state) (step_leaves p l (unpacked x) b (length w)) in
      rw (f, step_named p l x b (length w) on) (numbered_step x h', k ∙ rw e (listed_after p l x on p' t.state leaves))

  pub rows_completed : (i : List ℕ) {t : RunResult} {r : RawRun} → terminal.RunDone (run_rows_rule p l s i (length w)) t i p' w w'
      → l' ≡ rows_after p l s p' t.state → r ≡ run_numbers x t
      → RunDone (raw_run_rows p l x i (length w)) r i p' w w' × (l' ≡ raw_rows_after p l x p' r.state)
  rows_completed i {t} h k f =
      let h' = rw e at h in
      let leaves : Leaves p (unpacked x) p' t.state = rw (h'.page, h'.state) (run_leaves p l (unpacked x) i (length w)) in
      rw (f, run_named p l x i (length w) on) (numbered_run x h', k ∙ rw e (listed_after p l x on p' t.state leaves))

-- ---- the rebuild

module _ (p l : List ℕ) (x : RawState) where
  pub rebuilt_unnamed : named x ≡ false → (7 ≡ raw_rebuild_answer p l x) × (l ≡ raw_rebuilt p l x)
  unfolding raw_can_rebuild
  rebuilt_unnamed off = rw off (refl, refl)

  pub rebuilt_named : named x ≡ true → {s : State} → s ≡ unpacked x → {n m : ℕ} {l' : List ℕ} → n ≡ m → m ≡ rebuild_answer p l s → l' ≡ rebuilt p l s
      → (n ≡ raw_rebuild_answer p l x) × (l' ≡ raw_rebuilt p l x)
  unfolding raw_can_rebuild
  rebuilt_named on e n h k = rw (on, ← e) (n ∙ h, k)
