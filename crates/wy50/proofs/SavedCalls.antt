-- The exported save and restore, from the promises of the crate `saved`.
-- Assumes nothing.
use mathlib.Core.Path.{◌≡◌, refl, sym, ap, ap₂, ◌∙◌}
use mathlib.Core.Bool.{true, false}
use mathlib.Core.List.{List}
use Rattle.std.specs.Prelude.{Result, Ok, Err}
use Prim.Native.Nat.{ℕ}
use lib.Dec.{eqb}
use Rattle.rules.specs.declared.State.{State}
use Rattle.rules.specs.Cell.{pick}
use Rattle.saved.specs.declared.Refusal.{Refusal}
use Rattle.saved.specs.Calls.{save_number, saved_as, save_rule, SaveGives, RestoreOutcome, restore_rule, RestoreGives, refusal_number}
use Rattle.wy50.specs.declared.raw.RawState.{RawState}
use Rattle.wy50.specs.declared.raw.RawSave.{RawSave}
use Rattle.wy50.specs.Raw.{packed, unpacked, named}
use Rattle.wy50.specs.Saved.{raw_save, save_given, raw_restore, state_after}

module _ (x : RawState) (store : List ℕ) where
  abbrev Saving : RawSave → List ℕ → Type 0
  Saving r after = (r ≡ save_given (raw_save x store)) × (after ≡ (raw_save x store).store)

  pub save_unnamed : named x ≡ false → Saving (record { answer = 7; number = 0 }) store
  unfolding raw_save
  save_unnamed off = rw off (refl, refl)

  pub save_named : {s : State} {a : Result ℕ Refusal} {r : RawSave} {after : List ℕ} → named x ≡ true → s ≡ unpacked x
      → SaveGives (save_rule s store) a after → r ≡ record { answer = save_number a; number = saved_as a } → Saving r after
  unfolding raw_save
  save_named {s} {a} {r} {after} on e h z =
      rw (on, ← e) (z ∙ ap₂ {C = RawSave} (λ n m. record { answer = n; number = m }) h.answer h.number, h.store)

-- a restore that is done, and one that is refused
done_after : (x : RawState) (o : RestoreOutcome) → 0 ≡ o.answer → packed x o.state ≡ state_after x o
done_after x o e = ap (λ (n : ℕ). pick (eqb n 0) (packed x o.state) x) e

refused_after : (x : RawState) (o : RestoreOutcome) (e : Refusal) → refusal_number e ≡ o.answer → x ≡ state_after x o
refused_after x o e h = sym (not_done e) ∙ ap (λ (n : ℕ). pick (eqb n 0) (packed x o.state) x) h
  where
    not_done : (e : Refusal) → pick (eqb (refusal_number e) 0) (packed x o.state) x ≡ x
    not_done Refusal.BadState = refl
    not_done Refusal.BadStore = refl
    not_done Refusal.BadNumber = refl
    not_done Refusal.Full = refl

module _ (x : RawState) (store : List ℕ) (n : ℕ) where
  abbrev Restoring : ℕ → RawState → Type 0
  Restoring a y = (a ≡ (raw_restore x store n).answer) × (y ≡ state_after x (raw_restore x store n))

  pub restore_unnamed : named x ≡ false → Restoring 7 x
  unfolding raw_restore
  restore_unnamed off = rw off (refl, refl)

  module _ {s : State} (on : named x ≡ true) (e : s ≡ unpacked x) where
    pub restore_done : {t : State} {y : RawState} → RestoreGives s (restore_rule s store n) (Ok t) → y ≡ packed x t → Restoring 0 y
    unfolding raw_restore
    restore_done h v =
        let h' = rw e at h in
        rw on (h'.answer, v ∙ ap (packed x) h'.state ∙ done_after x (restore_rule (unpacked x) store n) h'.answer)

    pub restore_refused : {a : Refusal} {k : ℕ} → RestoreGives s (restore_rule s store n) (Err a) → k ≡ refusal_number a → Restoring k x
    unfolding raw_restore
    restore_refused {a} h z =
        let h' = rw e at h in rw on (z ∙ h'.answer, refused_after x (restore_rule (unpacked x) store n) a h'.answer)
