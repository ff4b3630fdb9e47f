-- The calls with a row list beside those without.
--     equal_results     with a list that agrees they give the same, and the list agrees after them
--     disagreeing       with one that does not: 7, and nothing has changed
--     rebuilding        when the rebuild is made
--     call_leaves       what one call leaves
--     same_is           two lists that are the same are equal
--     length_list       a row list has 48 numbers
-- Assumes nothing.
use mathlib.Core.Path.{◌≡◌, refl, sym, ap, ap₂, ◌∙◌}
use mathlib.Core.Bool.{Bool, true, false, false≢true}
use mathlib.Core.List.{List, [], ◌∷◌, ◌++◌}
use Prim.Native.Nat.{ℕ, zero, suc, ◌*◌}
use native.Mathlib.Omega.{arith}
use borrow.Author.Tests.{eqb-true, eq-eqb, ne_eqb}
use lib.Dec.{eqb}
use lib.ListN.{length, drop}
use Rattle.rules.specs.declared.State.{State}
use Rattle.rules.specs.Cell.{pick, both, either, same}
use Rattle.rules.specs.State.{width_of}
use Rattle.rules.specs.Possible.{good}
use Rattle.rules.specs.Search.{guarded_at}
use Rattle.rules.specs.Step.{step_rule}
use Rattle.rules.specs.Calls.{ended, run_rule, Call, Step, Run, of_step, of_run, call_rule, Given, Played, after, play}
use Rattle.rules.specs.Next.{next_rule}
use Rattle.rules.specs.RowList.{row_numbers, row_list, rows_of, agrees}
use Rattle.rules.specs.RowCalls.{step_rows_rule, run_rows_rule, suits, next_rows_rule, rows_after, can_rebuild, rebuild_answer, rebuilt, Session}
use Rattle.rules.specs.RowCalls.{RowCall, Bare, ListStep, ListRun, Next, Rebuild, handed, left, row_call_rule, row_after, row_play, bare_call}
use Rattle.rules.specs.RowCalls.{bare_calls}
use Rattle.rules.specs.Theorems.RowSteps.{EqualResults, Disagreeing, Rebuilding}
use Rattle.rules.proofs.Tests.{both_parts, both_true}
use Rattle.rules.proofs.Next.{next_run_lem}

pub same_is : (k l : List ℕ) → same k l ≡ true → k ≡ l
unfolding same
same_is [] [] e = refl
same_is [] (y ∷ l) e = absurd (false≢true e)
same_is (x ∷ k) [] e = absurd (false≢true e)
same_is (x ∷ k) (y ∷ l) e =
    let r = both_parts (eqb x y) (same k l) e in
    ap₂ (λ (i : ℕ) (t : List ℕ). i ∷ t) (eqb-true x y r.0) (same_is k l r.1)

pub same_refl : (l : List ℕ) → same l l ≡ true
unfolding same
same_refl [] = refl
same_refl (x ∷ l) = both_true (eq-eqb x x refl) (same_refl l)

pub length_numbers : (w n : ℕ) (g : List Bool) → length (row_numbers w n g) ≡ 2 * n
unfolding row_numbers
length_numbers w zero g = refl
length_numbers w (suc n) g = omega (arith, length_numbers w n (drop w g))

pub length_list : (w : ℕ) (g : List Bool) → length (row_list w g) ≡ 48
length_list w g = length_numbers w 24 g

step_with : (p l : List ℕ) (s : State) (b room : ℕ) → agrees l p s ≡ true → step_rows_rule p l s b room ≡ step_rule p s b room
unfolding step_rows_rule
step_with p l s b room e = rw e

run_with : (p l : List ℕ) (s : State) (bytes : List ℕ) (room : ℕ) → agrees l p s ≡ true → run_rows_rule p l s bytes room ≡ run_rule p s bytes room
unfolding run_rows_rule
run_with p l s bytes room e = rw e

next_with : (p l : List ℕ) (s : State) (bytes : List ℕ) (room : ℕ) → agrees l p s ≡ true → next_rows_rule p l s bytes room ≡ next_rule p s bytes room
unfolding next_rows_rule
next_with p l s bytes room e = by (eqb (length l) 0)
  where
    by : (t : Bool) → pick (either t (agrees l p s)) (next_rule p s bytes room) (ended p s 7 bytes) ≡ next_rule p s bytes room
    by true = refl
    by false = rw e

next_without : (p : List ℕ) (s : State) (bytes : List ℕ) (room : ℕ) → next_rows_rule p [] s bytes room ≡ next_rule p s bytes room
unfolding next_rows_rule
next_without p s bytes room = refl

rows_agree : (p l : List ℕ) (s : State) (p' : List ℕ) (s' : State) → agrees l p s ≡ true → agrees (rows_after p l s p' s') p' s' ≡ true
unfolding rows_after
rows_agree p l s p' s' e = rw e (same_refl (rows_of p' s'))

-- ---- lists of calls

play_append : (a b : List Call) (p : List ℕ) (s : State)
    → let r = play a p s in
    ((play (a ++ b) p s).page ≡ (play b r.page r.state).page) × ((play (a ++ b) p s).state ≡ (play b r.page r.state).state)
unfolding play after
play_append [] b p s = (refl, refl)
play_append (c ∷ a) b p s = play_append a b (call_rule p s c).page (call_rule p s c).given.state

-- what one call leaves is what the calls that it comes to leave
pub record Leaves (x : Session) (c : RowCall) : Type 0 where
  pub page : (left (row_call_rule x c)).page ≡ (play (bare_call x c) x.page x.state).page
  pub state : (left (row_call_rule x c)).state ≡ (play (bare_call x c) x.page x.state).state

pub call_leaves : (x : Session) (c : RowCall) → Leaves x c
unfolding row_call_rule bare_call play after call_rule step_rows_rule run_rows_rule next_rows_rule of_step of_run
call_leaves x (Bare c) = record { page = refl; state = refl }
call_leaves x (ListStep b room) = by (agrees x.rows x.page x.state) refl
  where
    by : (t : Bool) → agrees x.rows x.page x.state ≡ t → Leaves x (ListStep b room)
    by true e = record { page = rw e; state = rw e }
    by false e = record { page = rw e; state = rw e }
call_leaves x (ListRun bytes room) = by (agrees x.rows x.page x.state) refl
  where
    by : (t : Bool) → agrees x.rows x.page x.state ≡ t → Leaves x (ListRun bytes room)
    by true e = record { page = rw e; state = rw e }
    by false e = record { page = rw e; state = rw e }
call_leaves x (Next with bytes room) = by (suits (handed with x) x.page x.state) refl
  where
    by : (t : Bool) → suits (handed with x) x.page x.state ≡ t → Leaves x (Next with bytes room)
    by true e = let r = next_run_lem x.page x.state bytes room in record { page = rw e r.0; state = rw e r.1 }
    by false e = record { page = rw e; state = rw e }
call_leaves x Rebuild = record { page = refl; state = refl }

play_leaves : (cs : List RowCall) (x : Session)
    → let r = (row_play cs x).session in let k = play (bare_calls cs x) x.page x.state in (r.page ≡ k.page) × (r.state ≡ k.state)
unfolding row_play bare_calls row_after play
play_leaves [] x = (refl, refl)
play_leaves (c ∷ cs) x =
    let y = left (row_call_rule x c) in
    let h = play_leaves cs y in
    let k = call_leaves x c in
    let a = play_append (bare_call x c) (bare_calls cs y) x.page x.state in (
      h.0 ∙ ap₂ (λ (p : List ℕ) (s : State). (play (bare_calls cs y) p s).page) k.page k.state ∙ sym a.0,
      h.1 ∙ ap₂ (λ (p : List ℕ) (s : State). (play (bare_calls cs y) p s).state) k.page k.state ∙ sym a.1,
    )

pub equal_results : EqualResults
equal_results = record {
  step = step_with;
  run = run_with;
  next = next_with;
  none = next_without;
  agreed = rows_agree;
  page = λ cs x. (play_leaves cs x).0;
  state = λ cs x. (play_leaves cs x).1;
}

-- ---- a list that disagrees

not_the_same : (k l : List ℕ) → (k ≡ l → ⊥) → same k l ≡ false
not_the_same k l n = by (same k l) refl
  where
    by : (t : Bool) → same k l ≡ t → t ≡ false
    by true e = absurd (n (same_is k l e))
    by false e = refl

pub disagreeing : Disagreeing
unfolding step_rows_rule run_rows_rule next_rows_rule rows_after
disagreeing = record {
  step = λ p l s b room e. rw e;
  run = λ p l s bytes room e. rw e;
  next = λ p l s bytes room e n. rw (ne_eqb (length l) 0 n, e);
  kept = λ p l s p' s' e. rw e;
  wrong_length = λ p l s n. not_the_same l (rows_of p s)
      (λ e. n (ap length e ∙ length_list (width_of s.core.screen) (guarded_at s.core.modes.protect p)));
}

-- ---- the rebuild

module _ (p l : List ℕ) (s : State) where
  made : length l ≡ 48 → good p s ≡ true → can_rebuild p l s ≡ true
  unfolding can_rebuild
  made e g = both_true (eq-eqb (length l) 48 e) g

  wrong_length : (length l ≡ 48 → ⊥) → can_rebuild p l s ≡ false
  unfolding can_rebuild
  wrong_length n = rw (ne_eqb (length l) 48 n)

  wrong_page : good p s ≡ false → can_rebuild p l s ≡ false
  unfolding can_rebuild
  wrong_page g = rw g (both_none (eqb (length l) 48))
    where
      both_none : (t : Bool) → both t false ≡ false
      both_none true = refl
      both_none false = refl

  refused : can_rebuild p l s ≡ false → (rebuild_answer p l s ≡ 7) × (rebuilt p l s ≡ l)
  refused e = rw e (refl, refl)

pub rebuilding : Rebuilding
rebuilding = record {
  done = λ p l s e g. rw (made p l s e g) (refl, same_refl (rows_of p s));
  bad_length = λ p l s n. refused p l s (wrong_length p l s n);
  bad = λ p l s g. refused p l s (wrong_page p l s g);
}
