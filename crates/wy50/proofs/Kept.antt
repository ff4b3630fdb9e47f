-- The calls over numbers: a bad call gives back what it was handed, and a good page and state stay good.
--     bad_step_lem, bad_run_lem, bad_press     a bad call
--     as_they_came     the statement of specs/Promise
--     fresh_good, step_kept, run_kept, convert_kept     the page and the numbers after power-on, after a good call and after a conversion are good
-- Assumes nothing.
use mathlib.Core.Path.{◌≡◌, refl, sym, ap, ◌∙◌}
use mathlib.Core.Bool.{Bool, true, false}
use mathlib.Core.List.{List, []}
use mathlib.Core.Logic.{◌⊎◌, inl, inr}
use Prim.Native.Nat.{ℕ}
use native.Mathlib.Omega.{arith}
use lib.ListN.{length}
use Rattle.rules.specs.declared.State.{State}
use Rattle.rules.specs.declared.Personality.{Personality}
use Rattle.rules.specs.Cell.{pick}
use Rattle.rules.specs.Possible.{power_on, pending_ok, good}
use Rattle.rules.specs.Convert.{convert_rule}
use Rattle.rules.specs.Cell.{between}
use Rattle.rules.specs.Step.{Outcome, step_rule}
use Rattle.rules.specs.Calls.{pressed, power_on_rule, run_rule, press_rule}
use Rattle.rules.proofs.Kept.{PossibleCore, possible_parts, possible_whole, good_parts, good_whole, step_good, run_good, power_on_good_lem}
use Rattle.rules.proofs.Left.{step_left}
use Rattle.rules.proofs.Convert.{conversion}
use Rattle.state.proofs.Tests.{both_left, both_right}
use Rattle.wy50.specs.declared.raw.RawState.{RawState}
use Rattle.wy50.specs.Raw.{all_below, sequence_of, gathered_in, numbers, gathered_back, packed, unpacked, named}
use Rattle.wy50.specs.Converting.{turned_by, unturned_by, raw_convert}
use Rattle.wy50.specs.Promise.{raw, raw_good, fresh_numbers, Clean, AsTheyCame, bad_step, bad_run, raw_step, raw_run, raw_press}
use Rattle.wy50.proofs.Gathered.{laid_possible, back_zeros}
use Rattle.wy50.proofs.RoundTrip.{possible_fits, numbers_named, regathered, unpacked_numbers, packed_unpacked}

-- a bad call gives the numbers back as they were
module _ (p : List ℕ) (x : RawState) (bad : raw_good p x ≡ false) where
  pub bad_step_lem : (b room : ℕ) → raw_step p x b room ≡ bad_step p x
  unfolding raw_step
  bad_step_lem b room = rw bad

  pub bad_run_lem : (l : List ℕ) (room : ℕ) → raw_run p x l room ≡ bad_run p x l
  unfolding raw_run
  bad_run_lem l room = rw bad

  -- a key press, by the terminal's
  bad_call : {A : Type 0} (one other : A) → (named x ≡ true → good p (unpacked x) ≡ false → one ≡ other) → pick (named x) one other ≡ other
  unfolding raw_good
  bad_call u v h = by (named x) refl where
    by : (t : Bool) → named x ≡ t → pick t u v ≡ v
    by true e = h e (rw e at bad)
    by false e = refl

  pub bad_press : (v room : ℕ) → raw_press p x v room ≡ pressed 7 []
  unfolding raw_press press_rule
  bad_press v room = bad_call _ _ (λ on off. rw off)

-- the numbers of a good state are good, with bytes gathered that its sequence may have
numbers_good : (b p : List ℕ) (s : State) → good p s ≡ true → pending_ok s.core.pending b ≡ true → raw_good p (numbers b s) ≡ true
unfolding raw_good
numbers_good b p s h k =
    let g = good_parts p s h in
    let w = possible_parts s g.1 in
    let core : PossibleCore
    s.core b = record { screen = w.core.screen; bells = w.core.bells; remembered = w.core.remembered; pending = k } in
    let fits = possible_fits s.core.screen s.core.pending s.sending w.sending in
    rw (numbers_named b s w.core.bells fits, unpacked_numbers b s fits)
    (good_whole p (regathered b s) g.0 (possible_whole (regathered b s) record { core = core; sending = w.sending; setup = w.setup }))

pending_good : (p : List ℕ) (s : State) → good p s ≡ true → pending_ok s.core.pending s.gathered ≡ true
pending_good p s h = (possible_parts s (good_parts p s h).1).core.pending

pub packed_good : (x : RawState) (p : List ℕ) (s : State) → good p s ≡ true → raw_good p (packed x s) ≡ true
packed_good x p s h = numbers_good (gathered_back x s) p s h (laid_possible s.core.pending s.gathered _ (pending_good p s h))

pub fresh_good : (m : Personality) (p : List ℕ) → length p ≡ 1920 → raw_good (power_on_rule m p).page (fresh_numbers (power_on_rule m p).state) ≡ true
fresh_good m p h =
    let s = (power_on_rule m p).state in
    let g = power_on_good_lem m p h in
    numbers_good s.gathered (power_on_rule m p).page s g (pending_good (power_on_rule m p).page s g)

module _ (p : List ℕ) (x : RawState) (fine : raw_good p x ≡ true) where
  is_good : good p (unpacked x) ≡ true
  unfolding raw_good
  is_good = both_right (named x) (good p (unpacked x)) fine

  pub step_kept : (b room : ℕ) → raw_good (raw_step p x b room).page (raw_step p x b room).state ≡ true
  unfolding raw_step
  step_kept b room =
      let o = step_rule p (unpacked x) b room in
      rw fine (packed_good x o.page o.state (step_good p (unpacked x) b room is_good))

  pub run_kept : (l : List ℕ) (room : ℕ) → raw_good (raw_run p x l room).page (raw_run p x l room).state ≡ true
  unfolding raw_run
  run_kept l room =
      let o = run_rule p (unpacked x) l room in
      rw fine (packed_good x o.page o.state (run_good p (unpacked x) l room is_good))

pub convert_kept : (p : List ℕ) (x : RawState) (t : List ℕ) → (raw_convert p x t).answer ≡ 0
    → raw_good (raw_convert p x t).target (raw_convert p x t).state ≡ true
unfolding raw_convert
convert_kept p x t h = by (named x) h
  where
    by : (b : Bool) → (pick b (turned_by x (convert_rule p (unpacked x) t)) (unturned_by 7 t x)).answer ≡ 0
        → let r = pick b (turned_by x (convert_rule p (unpacked x) t)) (unturned_by 7 t x) in raw_good r.target r.state ≡ true
    by true e = rw e (packed_good x _ _ (conversion.stays_good p (unpacked x) t e).0)
    by false e = absurd (omega (arith, e))

-- ---- nothing changed

module _ (p : List ℕ) (x : RawState) (b room : ℕ) where
  abbrev step : Outcome
  step = step_rule p (unpacked x) b room

  -- an answer that changes nothing
  kept_by : (n : ℕ) → (n ≡ 0 → ⊥) → between 2 4 n ≡ false → step.answer ≡ n → named x ≡ true → (packed x step.state ≡ x) × (step.page ≡ p)
  kept_by n z m e on =
      let l = step_left p (unpacked x) b room (λ f. z (sym e ∙ f)) in
      let s : step.state ≡ unpacked x = l.state ∙ rw (e, m) in
      (ap (packed x) s ∙ packed_unpacked x on, l.page)

  kept : (step.answer ≡ 1) ⊎ ((step.answer ≡ 6) ⊎ (step.answer ≡ 7)) → named x ≡ true → (packed x step.state ≡ x) × (step.page ≡ p)
  kept (inl e) = kept_by 1 (λ f. omega (arith, f)) refl e
  kept (inr (inl e)) = kept_by 6 (λ f. omega (arith, f)) refl e
  kept (inr (inr e)) = kept_by 7 (λ f. omega (arith, f)) refl e

  good_is : raw_good p x ≡ true → named x ≡ true
  unfolding raw_good
  good_is g = both_left (named x) (good p (unpacked x)) g

  refused : let o = raw_step p x b room in (o.answer ≡ 1) ⊎ ((o.answer ≡ 6) ⊎ (o.answer ≡ 7)) → (o.state ≡ x) × (o.page ≡ p)
  unfolding raw_step
  refused = by (raw_good p x) refl
    where
      by : (t : Bool) → raw_good p x ≡ t → let o = pick t (raw (packed x step.state) step) (bad_step p x) in
          (o.answer ≡ 1) ⊎ ((o.answer ≡ 6) ⊎ (o.answer ≡ 7)) → (o.state ≡ x) × (o.page ≡ p)
      by true g h = kept h (good_is g)
      by false g h = (refl, refl)

clean : (x : RawState) (s : State) → Clean x → Clean (packed x s)
unfolding numbers
clean x s k = back_zeros (gathered_in (sequence_of s.core.pending)) (gathered_in x.sequence) s.gathered x.gathered k

clean_at_first : (m : Personality) → Clean (fresh_numbers (power_on m))
unfolding numbers power_on all_below
clean_at_first m = refl

pub as_they_came : AsTheyCame
as_they_came = record { left = packed_unpacked; refused = refused; clean = clean; clean_at_first = clean_at_first }
