-- What request A10 of document 02 says of saved set-ups, the statement.
use Rattle.std.specs.Prelude.{◌≡◌, true, false, List, [], ℕ, ◌+◌, ◌<◌, ◌≤◌, length, get_or, drop, Err}
use Rattle.rules.specs.declared.State.{State}
use Rattle.rules.specs.declared.Setup.{Setup}
use Rattle.rules.specs.declared.Personality.{Personality}
use Rattle.rules.specs.Row.{addressed}
use Rattle.rules.specs.Possible.{power_on, blank, possible}
use Rattle.rules.specs.Calls.{Ran, run_rule}
use Rattle.saved.specs.declared.Refusal.TheVariants as Refusal
use Rattle.saved.specs.SetupBytes.{setup_bytes, longest}
use Rattle.saved.specs.Settings.{SameSettings, Shaped, Saved}
use Rattle.saved.specs.Store.{last_number, last_of_all, Saves, Leaves, is_setup, is_store}
use Rattle.saved.specs.Calls.{saved, save_rule, restorable, restoring, restore_rule}

-- a state that can be saved: a possible one
pub record Possible (s : State) : Type 0 where
  pub shaped : Shaped s.setup
  pub possible : possible s ≡ true

-- bytes are numbers below 256
abbrev pub Bytes : List ℕ → Type 0
Bytes l = (i : ℕ) → get_or l i 0 < 256

-- the run r over bytes: each answered 0, none replied, the page is as it was, and the settings are those of u
pub record Gives (u : Setup) (bytes p : List ℕ) (r : Ran) : Type 0 where
  pub answer : r.answer ≡ 0
  pub taken : r.taken ≡ length bytes
  pub refused : r.refused ≡ 0
  pub reply : r.reply ≡ []
  pub page : r.page ≡ p
  pub settings : SameSettings r.state.setup u

-- what a restore leaves: the core whole, so cursors, segments, modes, bells, the sequence and the send under way, the personality and the
-- remembered attribute; of the set-up the host message, the shifted line, the wish and the stops beyond column 80
pub record LeavesAlone (s t : State) : Type 0 where
  pub core : t.core ≡ s.core
  pub sending : t.sending ≡ s.sending
  pub gathered : t.gathered ≡ s.gathered
  pub message : t.setup.message ≡ s.setup.message
  pub shifted : t.setup.shifted ≡ s.setup.shifted
  pub wish : t.setup.wish ≡ s.setup.wish
  pub beyond : drop addressed t.setup.tabs ≡ drop addressed s.setup.tabs

-- of the bytes of a possible state's set-up
pub record OfBytes : Type 0 where
  -- at most 1,087
  pub short : (s : State) → Possible s → length (setup_bytes s.setup) ≤ longest
  -- fed to a power-on terminal of either personality they give those same settings
  pub gives : (m : Personality) (s : State) (room : ℕ) → Possible s
      → Gives s.setup (setup_bytes s.setup) blank (run_rule blank (power_on m) (setup_bytes s.setup) room)
  -- which bytes they are: the test decides
  pub sound : (bytes : List ℕ) → is_setup bytes ≡ true → Saved bytes
  pub complete : (bytes : List ℕ) → Saved bytes → is_setup bytes ≡ true

-- of stores: the test decides which ones saves could leave
pub record OfStores : Type 0 where
  pub sound : (store : List ℕ) → Bytes store → is_store store ≡ true → Leaves store
  pub complete : (store : List ℕ) → Leaves store → is_store store ≡ true

-- of a save: its refusals in their order, each leaving the store; else the next number, and a store that saves leave
pub record OfSave (s : State) (store : List ℕ) : Type 0 where
  pub bad_state : possible s ≡ false → save_rule s store ≡ saved (Err Refusal.BadState) store
  pub bad_store : possible s ≡ true → is_store store ≡ false → save_rule s store ≡ saved (Err Refusal.BadStore) store
  pub full : possible s ≡ true → Leaves store → last_number store ≡ last_of_all → save_rule s store ≡ saved (Err Refusal.Full) store
  pub done : Possible s → Leaves store → last_number store < last_of_all
      → ((save_rule s store).answer ≡ 0) × (((save_rule s store).number ≡ last_number store + 1) × Leaves (save_rule s store).store)
  pub next : Possible s → Leaves store → last_number store < last_of_all → last_number (save_rule s store).store ≡ last_number store + 1

-- of a restore: its refusals, each leaving the state; and whatever it answers, what it leaves
pub record OfRestore (s : State) (store : List ℕ) (n : ℕ) : Type 0 where
  pub bad_state : possible s ≡ false → restore_rule s store n ≡ restoring s (Err Refusal.BadState)
  pub bad_store : possible s ≡ true → is_store store ≡ false → restore_rule s store n ≡ restoring s (Err Refusal.BadStore)
  pub bad_number : possible s ≡ true → is_store store ≡ true → restorable (last_number store) n ≡ false
      → restore_rule s store n ≡ restoring s (Err Refusal.BadNumber)
  pub leaves : LeavesAlone s (restore_rule s store n).state
  pub possible : possible s ≡ true → possible (restore_rule s store n).state ≡ true

-- of a save of s and a restore of its number into t, `more` saves later: up to seven, and the settings of s are back; from eight on the number is
-- refused
pub record OfBoth (s t : State) (store : List ℕ) (more : ℕ) (later : List ℕ) : Type 0 where
  pub back : more ≤ 7 → ((restore_rule t later (last_number store + 1)).answer ≡ 0)
      × SameSettings (restore_rule t later (last_number store + 1)).state.setup s.setup
  pub gone : 8 ≤ more → restore_rule t later (last_number store + 1) ≡ restoring t (Err Refusal.BadNumber)

pub record SavedSetups : Type 0 where
  pub of_bytes : OfBytes
  pub of_stores : OfStores
  pub of_save : (s : State) (store : List ℕ) → OfSave s store
  pub of_restore : (s : State) (store : List ℕ) (n : ℕ) → OfRestore s store n
  pub of_both : (s t : State) (store : List ℕ) (more : ℕ) (later : List ℕ) → Possible s → possible t ≡ true → Leaves store
      → last_number store < last_of_all → Saves (save_rule s store).store more later → OfBoth s t store more later
