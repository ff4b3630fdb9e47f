-- The two calls: save and restore. The order of refusals is that of the tests: an impossible state, a store that no saves could leave, then the
-- number or that all are used. What is refused changes nothing.
use Rattle.std.specs.Prelude.{◌≡◌, Bool, List, ℕ, ◌+◌, leb, ltb, Result, Ok, Err}
use Rattle.std.specs.Result.{result_unwrap_or}
use Rattle.rules.specs.declared.State.{State}
use Rattle.rules.specs.Cell.{pick, both}
use Rattle.rules.specs.Possible.{possible}
use Rattle.saved.specs.declared.Refusal.{Refusal}
use Rattle.saved.specs.SetupBytes.{setup_bytes}
use Rattle.saved.specs.Settings.{fed, with_settings, with_setup}
use Rattle.saved.specs.Store.{last_number, last_of_all, setup_of, after_save, is_store}

-- the number of each refusal: 7 for an impossible state, 9 for a store that no saves could leave, 10 for a number never saved or overwritten, 11
-- after number 65,535
abbrev pub refusal_number : Refusal → ℕ
refusal_number Refusal.BadState = 7
refusal_number Refusal.BadStore = 9
refusal_number Refusal.BadNumber = 10
refusal_number Refusal.Full = 11

-- the last number, where a state can be saved and saves could leave the store
abbrev pub last_rule : State → List ℕ → Result ℕ Refusal
last_rule s store = pick (possible s) (pick (is_store store) (Ok (last_number store)) (Err Refusal.BadStore)) (Err Refusal.BadState)

-- the number of a save's answer
abbrev pub save_number : Result ℕ Refusal → ℕ
save_number (Ok n) = 0
save_number (Err e) = refusal_number e

-- and its value, the number saved: 0 where none is
abbrev pub saved_as : Result ℕ Refusal → ℕ
saved_as (Ok n) = n
saved_as (Err e) = 0

-- what a save gives in numbers, and the store after it
pub record SaveOutcome : Type 0 where
  pub answer : ℕ
  pub number : ℕ
  pub store : List ℕ

abbrev pub saved : Result ℕ Refusal → List ℕ → SaveOutcome
saved a store = record { answer = save_number a; number = saved_as a; store = store }

unfoldable pub save_rule : State → List ℕ → SaveOutcome
save_rule s store =
    pick (possible s)
    (pick (is_store store)
    (pick (ltb (last_number store) last_of_all)
    (saved (Ok (last_number store + 1)) (after_save (setup_bytes s.setup) store))
    (saved (Err Refusal.Full) store))
    (saved (Err Refusal.BadStore) store))
    (saved (Err Refusal.BadState) store)

-- a number that can be restored: one of the last eight
abbrev pub restorable : ℕ → ℕ → Bool
restorable last n = both (leb 1 n) (both (leb n last) (ltb last (n + 8)))

-- the state with the settings that the bytes give a power-on terminal of its personality
unfoldable pub restored : List ℕ → State → State
restored bytes s = with_setup s (with_settings (fed s.core.personality bytes) s.setup)

-- the number of a restore's answer
abbrev pub restore_number : Result State Refusal → ℕ
restore_number (Ok t) = 0
restore_number (Err e) = refusal_number e

-- what a restore gives in numbers, and the state after it: a refused one leaves the state s
pub record RestoreOutcome : Type 0 where
  pub answer : ℕ
  pub state : State

abbrev pub restoring : State → Result State Refusal → RestoreOutcome
restoring s a = record { answer = restore_number a; state = result_unwrap_or a s }

unfoldable pub restore_rule : State → List ℕ → ℕ → RestoreOutcome
restore_rule s store n =
    pick (possible s)
    (pick (is_store store)
    (pick (restorable (last_number store) n)
    (restoring s (Ok (restored (setup_of store n) s)))
    (restoring s (Err Refusal.BadNumber)))
    (restoring s (Err Refusal.BadStore)))
    (restoring s (Err Refusal.BadState))

-- ---- the promises

-- a is what the call gave, and t the store after it
pub record SaveGives (o : SaveOutcome) (a : Result ℕ Refusal) (t : List ℕ) : Type 0 where
  pub answer : save_number a ≡ o.answer
  pub number : saved_as a ≡ o.number
  pub store : t ≡ o.store

-- a is what the call gave, and s the state that it was given
pub record RestoreGives (s : State) (o : RestoreOutcome) (a : Result State Refusal) : Type 0 where
  pub answer : restore_number a ≡ o.answer
  pub state : result_unwrap_or a s ≡ o.state

-- the numbers, and the state, say which answer it is
abbrev pub OneSave : Type 0
OneSave = (a b : Result ℕ Refusal) → save_number a ≡ save_number b → saved_as a ≡ saved_as b → a ≡ b

abbrev pub OneRestore : Type 0
OneRestore = (s : State) (a b : Result State Refusal) → restore_number a ≡ restore_number b → result_unwrap_or a s ≡ result_unwrap_or b s → a ≡ b
