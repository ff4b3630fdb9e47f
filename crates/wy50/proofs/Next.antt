-- The exported `next`, from the promise of the terminal's.
--     heard           the terminal's, in numbers, of a bad page, state or list too
--     heard_unnamed   numbers that name no state
-- Assumes nothing.
use mathlib.Core.Path.{◌≡◌, refl, sym, ap, ap₂, ◌∙◌}
use mathlib.Core.Bool.{true, false, false≢true}
use mathlib.Core.List.{List}
use Prim.Native.Nat.{ℕ}
use lib.ListN.{length}
use Rattle.rules.specs.declared.State.{State}
use Rattle.rules.specs.declared.RunResult.{RunResult}
use Rattle.rules.specs.Cell.{both}
use Rattle.rules.specs.Possible.{good}
use Rattle.rules.specs.Calls.{Ran, ended}
use Rattle.rules.specs.Next.{next_rule, reply_command}
use Rattle.rules.specs.RowCalls.{suits, next_rows_rule, rows_after}
use Rattle.rules.proofs.Next.{next_refused, next_good}
use Rattle.rules.proofs.Tests.{pick_if}
use Rattle.state.proofs.Tests.{both_right}
use Rattle.terminal.specs.Promise as terminal
use Rattle.wy50.specs.declared.raw.RawState.{RawState}
use Rattle.wy50.specs.declared.raw.RawNext.{RawNext}
use Rattle.wy50.specs.Raw.{unpacked, named}
use Rattle.wy50.specs.Promise.{raw_good, RawRan, raw_ran}
use Rattle.wy50.specs.Rows.{raw_listed, raw_suited, raw_next, raw_rows_after, next_numbers, Heard}
use Rattle.wy50.proofs.Calls.{not_good, raw_good_lem, unnamed_bad, ended_is, nothing_done, numbered_run}
use Rattle.wy50.proofs.RowCalls.{Leaves, listed_after}

-- ---- refused

pub heard_unnamed : (p l : List ℕ) (x : RawState) (i w : List ℕ) → named x ≡ false
    → Heard p l x i (record { answer = 7; command = 0; taken = 0; replied = 0; refused = 0; state = x }) p l w w
unfolding raw_next raw_suited raw_rows_after raw_listed reply_command
heard_unnamed p l x i w off =
    let bad = unnamed_bad p x off in record { run = rw bad (nothing_done p x i w); command = refl; rows = rw bad }

-- ---- named

-- a list that suits, beside a page and numbers that are not good with it
suited_bad : (p l : List ℕ) (x : RawState) → named x ≡ true → raw_suited p l x ≡ false → suits l p (unpacked x) ≡ true → good p (unpacked x) ≡ false
unfolding raw_suited
suited_bad p l x on k f =
    not_good (good p (unpacked x)) (λ g. false≢true (sym k ∙ ap₂ both (raw_good_lem p x on g) f))

suited_suits : (p l : List ℕ) (x : RawState) → raw_suited p l x ≡ true → suits l p (unpacked x) ≡ true
unfolding raw_suited
suited_suits p l x k = both_right (raw_good p x) (suits l p (unpacked x)) k

suited : (p l : List ℕ) (s : State) (i : List ℕ) (room : ℕ) → suits l p s ≡ true → next_rows_rule p l s i room ≡ next_rule p s i room
unfolding next_rows_rule
suited p l s i room f = rw f

-- it is the terminal's, in numbers, whether the page, the state and the list are good or bad
next_named : (p l : List ℕ) (x : RawState) (i : List ℕ) (room : ℕ) → named x ≡ true
    → raw_next p l x i room ≡ raw_ran x (next_rows_rule p l (unpacked x) i room)
unfolding raw_next next_rows_rule
next_named p l x i room on =
    let u = unpacked x in
    let bad : raw_suited p l x ≡ false → next_rows_rule p l u i room ≡ ended p u 7 i = λ k.
    pick_if (λ (o : Ran). o ≡ ended p u 7 i) (suits l p u) (λ f. next_refused p u i room (suited_bad p l x on k f)) (λ f. refl) in
    pick_if (λ (o : RawRan). o ≡ raw_ran x (next_rows_rule p l u i room)) (raw_suited p l x)
    (λ k. sym (ap (raw_ran x) (suited p l u i room (suited_suits p l x k))))
    (λ k. sym (ap (raw_ran x) (bad k) ∙ ended_is p x i on))

next_leaves : (p l : List ℕ) (s : State) (i : List ℕ) (room : ℕ) → let o = next_rows_rule p l s i room in Leaves p s o.page o.state
unfolding next_rows_rule
next_leaves p l s i room =
    pick_if (λ (o : Ran). Leaves p s o.page o.state) (suits l p s)
    (λ f. (next_good p s i room, λ g. rw (next_refused p s i room g) (refl, refl))) (λ f. (λ g. g, λ g. (refl, refl)))

module _ (p l : List ℕ) (x : RawState) (i w : List ℕ) {s : State} {t : RunResult} {p' w' l' : List ℕ} (on : named x ≡ true) (e : s ≡ unpacked x) where
  pub heard : {c : ℕ} {r : RawNext} → terminal.RunDone (next_rows_rule p l s i (length w)) t i p' w w' → l' ≡ rows_after p l s p' t.state
      → c ≡ reply_command s.sending i t.taken t.replied → r ≡ next_numbers x c t → Heard p l x i r p' l' w w'
  heard h k d f =
      let h' = rw e at h in
      let leaves : Leaves p (unpacked x) p' t.state = rw (h'.page, h'.state) (next_leaves p l (unpacked x) i (length w)) in
      rw f (record {
        run = rw (next_named p l x i (length w) on) (numbered_run x h');
        command = d ∙ ap (λ (q : State). reply_command q.sending i t.taken t.replied) e;
        rows = k ∙ rw e (listed_after p l x on p' t.state leaves);
      })
