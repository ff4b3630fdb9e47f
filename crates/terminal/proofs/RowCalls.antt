-- The calls with a row list: from what the calls beside a list promise to the rules.
--     step_unlisted, run_unlisted, rows_unlisted     a bad page or state, or a list that does not agree
--     step_listed, run_listed, rows_listed           a list that agrees
--     beside_listed                                  such a list is kept beside the page
--     next_unsuited, next_suited, beside_suited, rows_suited     a list that agrees, or none
--     no_list, no_good, not_rebuilt, rebuilt_all     the rebuild
--     long_page                                      a good page's length
-- Assumes nothing.
use Rattle.std.specs.Prelude.{◌≡◌, ℕ, Bool, true, false, eqb, List, [], ◌∷◌, length, Ok, Err}
use mathlib.Core.Path.{refl, sym, ap, ◌∙◌}
use mathlib.Core.Bool.{false≢true}
use mathlib.Core.Logic.{inl, inr}
use native.Mathlib.Omega.{arith}
use borrow.Author.Tests.{eqb-true, eq-eqb, ne_eqb}
use Rattle.rules.specs.declared.Answer.{Answer}
use Rattle.rules.specs.declared.State.{State}
use Rattle.rules.specs.declared.StepResult.{StepResult}
use Rattle.rules.specs.declared.RunResult.{RunResult}
use Rattle.rules.specs.Cell.{pick, both, either}
use Rattle.rules.specs.Search.{guarded_at}
use Rattle.rules.specs.State.{width_of, page_length}
use Rattle.rules.specs.Possible.{good}
use Rattle.rules.specs.Step.{unheard, step_rule}
use Rattle.rules.specs.Calls.{ended, run_rule}
use Rattle.rules.specs.Next.{next_rule}
use Rattle.rules.specs.RowList.{Beside, rows_of, agrees}
use Rattle.rules.specs.RowCalls.{step_rows_rule, run_rows_rule, suits, next_rows_rule, rows_after, can_rebuild, rebuild_answer, rebuilt}
use Rattle.rules.proofs.Tests.{both_parts, both_true}
use Rattle.rules.proofs.Unrevealing.{both_false}
use Rattle.rules.proofs.Kept.{good_parts}
use Rattle.rules.proofs.RowSteps.{same_is, length_list, disagreeing}
use Rattle.page.proofs.RowList.{listed}
use Rattle.terminal.specs.Promise.{Stepped, RunDone, Rebuilt}
use Rattle.terminal.proofs.Carrying.{over_none}
use Rattle.terminal.proofs.Calls.{nothing_taken, step_refused, run_refused}

either_first : (a b : Bool) → either a b ≡ true → b ≡ false → a ≡ true
either_first true b e f = refl
either_first false b e f = absurd (false≢true (sym f ∙ e))

empty : (l : List ℕ) → length l ≡ 0 → l ≡ []
empty [] e = refl
empty (x ∷ l) e = absurd (omega (arith, e))

bad_page : (g : Bool) → both g true ≡ false → g ≡ false
bad_page true e = e
bad_page false e = refl

module _ (p l : List ℕ) (s : State) where
  module _ (bad : both (good p s) (agrees l p s) ≡ false) where
    pub step_unlisted : (b : ℕ) (w : List ℕ)
        → Stepped (step_rows_rule p l s b (length w)) (record { answer = Answer.BadCall; taken = false; replied = 0; state = s }) p w w
    unfolding step_rows_rule
    step_unlisted b w = by (agrees l p s) refl
      where
        by : (t : Bool) → agrees l p s ≡ t → Stepped (pick t (step_rule p s b (length w)) (unheard 7 p s))
            (record { answer = Answer.BadCall; taken = false; replied = 0; state = s }) p w w
        by true e = step_refused p s (bad_page (good p s) (rw e at bad)) b w
        by false e = record { answer = refl; taken = refl; state = refl; replied = refl; page = refl; room = over_none w; fits = omega arith }

    pub run_unlisted : (i w : List ℕ)
        → RunDone (run_rows_rule p l s i (length w)) (record { answer = Answer.BadCall; taken = 0; replied = 0; refused = 0; state = s }) i p w w
    unfolding run_rows_rule
    run_unlisted i w = by (agrees l p s) refl
      where
        by : (t : Bool) → agrees l p s ≡ t
            → RunDone (pick t (run_rule p s i (length w)) (ended p s 7 i))
            (record { answer = Answer.BadCall; taken = 0; replied = 0; refused = 0; state = s }) i p w w
        by true e = run_refused p s (bad_page (good p s) (rw e at bad)) false i w
        by false e = nothing_taken Answer.BadCall w refl

  pub next_unsuited : both (good p s) (suits l p s) ≡ false → (i w : List ℕ)
      → RunDone (next_rows_rule p l s i (length w)) (record { answer = Answer.BadCall; taken = 0; replied = 0; refused = 0; state = s }) i p w w
  unfolding next_rows_rule
  next_unsuited bad i w = by (suits l p s) refl
    where
      by : (t : Bool) → suits l p s ≡ t
          → RunDone (pick t (next_rule p s i (length w)) (ended p s 7 i))
          (record { answer = Answer.BadCall; taken = 0; replied = 0; refused = 0; state = s }) i p w w
      by true e = run_refused p s (bad_page (good p s) (rw e at bad)) true i w
      by false e = nothing_taken Answer.BadCall w refl

  -- the list is left
  pub rows_unlisted : l ≡ rows_after p l s p s
  unfolding rows_after
  rows_unlisted = by (agrees l p s) refl
    where
      by : (t : Bool) → agrees l p s ≡ t → l ≡ pick t (rows_of p s) l
      by true e = same_is l (rows_of p s) e
      by false e = refl

  module _ (fine : both (good p s) (agrees l p s) ≡ true) where
    list : l ≡ rows_of p s
    list = same_is l (rows_of p s) (both_parts (good p s) (agrees l p s) fine).1

    pub beside_listed : (good p s ≡ true) × Beside (width_of s.core.screen) (guarded_at s.core.modes.protect p) l
    beside_listed = ((both_parts (good p s) (agrees l p s) fine).0, inr list)

    pub step_listed : (b : ℕ) {r : StepResult} {p' w w' : List ℕ} → Stepped (step_rule p s b (length w)) r p' w w'
        → Stepped (step_rows_rule p l s b (length w)) r p' w w'
    unfolding step_rows_rule
    step_listed b h = rw (both_parts (good p s) (agrees l p s) fine).1 h

    pub run_listed : {i : List ℕ} {r : RunResult} {p' w w' : List ℕ} → RunDone (run_rule p s i (length w)) r i p' w w'
        → RunDone (run_rows_rule p l s i (length w)) r i p' w w'
    unfolding run_rows_rule
    run_listed h = rw (both_parts (good p s) (agrees l p s) fine).1 h

    pub rows_listed : (s' : State) (p' l' : List ℕ) → length l' ≡ length l
        → Beside (width_of s'.core.screen) (guarded_at s'.core.modes.protect p') l'
        → l' ≡ rows_after p l s p' s'
    unfolding rows_after
    rows_listed s' p' l' n b =
        rw (both_parts (good p s) (agrees l p s) fine).1
        (listed (width_of s'.core.screen) (guarded_at s'.core.modes.protect p') b
        (λ e. omega (arith, n, ap length list, length_list (width_of s.core.screen) (guarded_at s.core.modes.protect p))))

-- ---- a list that suits: it agrees, or is empty

pub suits_none : (p l : List ℕ) (s : State) → length l ≡ 0 → good p s ≡ both (good p s) (suits l p s)
suits_none p l s e = rw e (by (good p s))
  where
    by : (t : Bool) → t ≡ both t true
    by true = refl
    by false = refl

pub suits_some : (p l : List ℕ) (s : State) → (length l ≡ 0 → ⊥) → both (good p s) (agrees l p s) ≡ both (good p s) (suits l p s)
suits_some p l s n = rw (ne_eqb (length l) 0 n)

module _ (p l : List ℕ) (s : State) (fine : both (good p s) (suits l p s) ≡ true) where
  pub beside_suited : (good p s ≡ true) × Beside (width_of s.core.screen) (guarded_at s.core.modes.protect p) l
  beside_suited = (h.0, by (eqb (length l) 0) refl h.1)
    where
      h : (good p s ≡ true) × (suits l p s ≡ true)
      h = both_parts (good p s) (suits l p s) fine

      by : (t : Bool) → eqb (length l) 0 ≡ t → either t (agrees l p s) ≡ true
          → Beside (width_of s.core.screen) (guarded_at s.core.modes.protect p) l
      by true z e = inl (eqb-true (length l) 0 z)
      by false z e = inr (same_is l (rows_of p s) e)

  pub next_suited : {i : List ℕ} {r : RunResult} {p' w w' : List ℕ} → RunDone (next_rule p s i (length w)) r i p' w w'
      → RunDone (next_rows_rule p l s i (length w)) r i p' w w'
  unfolding next_rows_rule
  next_suited h = rw (both_parts (good p s) (suits l p s) fine).1 h

  pub rows_suited : (s' : State) (p' l' : List ℕ) → length l' ≡ length l
      → Beside (width_of s'.core.screen) (guarded_at s'.core.modes.protect p') l'
      → l' ≡ rows_after p l s p' s'
  rows_suited s' p' l' n b = by (agrees l p s) refl
    where
      g : good p s ≡ true
      g = (both_parts (good p s) (suits l p s) fine).0

      by : (t : Bool) → agrees l p s ≡ t → l' ≡ rows_after p l s p' s'
      by true e = rows_listed p l s (both_true g e) s' p' l' n b
      by false e =
          let z : length l ≡ 0 = eqb-true (length l) 0
          (either_first (eqb (length l) 0) (agrees l p s) (both_parts (good p s) (suits l p s) fine).1 e) in
          empty l' (n ∙ z) ∙ sym (empty l z) ∙ sym (disagreeing.kept p l s p' s' e)

-- ---- the rebuild

module _ (p l : List ℕ) (s : State) where
  pub no_list : (length l ≡ 48 → ⊥) → can_rebuild p l s ≡ false
  unfolding can_rebuild
  no_list h = rw (ne_eqb (length l) 48 h)

  pub no_good : good p s ≡ false → can_rebuild p l s ≡ false
  unfolding can_rebuild
  no_good h = rw h (both_false (eqb (length l) 48))

  pub not_rebuilt : can_rebuild p l s ≡ false → Rebuilt (rebuild_answer p l s) (Err Answer.BadCall) × (l ≡ rebuilt p l s)
  not_rebuilt e = rw e (record { answer = refl; done = refl }, refl)

  pub rebuilt_all : length l ≡ 48 → good p s ≡ true → {l' : List ℕ} → l' ≡ rows_of p s → Rebuilt (rebuild_answer p l s) (Ok tt) × (l' ≡ rebuilt p l s)
  unfolding can_rebuild
  rebuilt_all h g k = rw (eq-eqb (length l) 48 h, g) (record { answer = refl; done = refl }, k)

pub long_page : (p : List ℕ) (s : State) → good p s ≡ true → length p ≡ page_length s.core.screen
long_page p s g = (good_parts p s g).0
