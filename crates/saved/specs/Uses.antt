-- Each statement used where a weaker one would not do: at a set-up of the most bytes, of a wide terminal inside a send.
use Rattle.std.specs.Prelude.{◌≡◌, true, false, List, ℕ, ◌≤◌, length, Err}
use Rattle.rules.specs.declared.State.{State}
use Rattle.rules.specs.declared.Personality.{Personality}
use Rattle.rules.specs.declared.Place.TheVariants as Place
use Rattle.rules.specs.declared.Sending.TheVariants as Sending
use Rattle.rules.specs.State.{with_screen}
use Rattle.rules.specs.Possible.{power_on, blank, possible}
use Rattle.rules.specs.Calls.{run_rule}
use Rattle.saved.specs.declared.Refusal.TheVariants as Refusal
use Rattle.saved.specs.SetupBytes.{setup_bytes}
use Rattle.saved.specs.Settings.{SameSettings, Saved}
use Rattle.saved.specs.Store.{Saves, Leaves, is_setup, is_store}
use Rattle.saved.specs.Calls.{save_rule, restoring, restore_rule}
use Rattle.saved.specs.SavedSetups.{Possible, Gives, LeavesAlone}
use Rattle.saved.specs.Cases.{on, full, zeros}

-- a WY-60 with a page of 132 columns, inside an ESC 5 send, with every stop, full keys and full labels
abbrev pub wide : State
wide = record {
  core = with_screen (power_on Personality.Wy60).core (record { wide = true; active = 0; split = 0; cursor0 = 3167; cursor1 = 0 });
  sending = Sending.Text false true (Place.Cell 3167);
  gathered = (power_on Personality.Wy60).gathered;
  setup = full;
}

-- the store after its save
abbrev pub kept : List ℕ
kept = (save_rule wide zeros).store

pub record Uses : Type 0 where
  pub is_possible : Possible wide
  -- so many bytes are reached, and no state has more
  pub longest : length (setup_bytes wide.setup) ≡ 1087
  pub short : (s : State) → Possible s → length (setup_bytes s.setup) ≤ 1087
  -- a terminal of either personality, with any room
  pub gives : (m : Personality) (room : ℕ)
      → Gives wide.setup (setup_bytes wide.setup) blank (run_rule blank (power_on m) (setup_bytes wide.setup) room)
  pub saved : Saved (setup_bytes wide.setup)
  pub is_setup_lem : is_setup (setup_bytes wide.setup) ≡ true
  -- saved as the first, and the store is one that saves leave
  pub done : (save_rule wide zeros).answer ≡ 0
  pub first : (save_rule wide zeros).number ≡ 1
  pub leaves : Leaves kept
  pub is_store_lem : is_store kept ≡ true
  -- restored into a WY-50 of 80 columns after none to seven more saves, and refused after eight
  pub back : (more : ℕ) (later : List ℕ) → Saves kept more later → more ≤ 7
      → ((restore_rule on later 1).answer ≡ 0) × SameSettings (restore_rule on later 1).state.setup wide.setup
  pub gone : (later : List ℕ) → Saves kept 8 later → restore_rule on later 1 ≡ restoring on (Err Refusal.BadNumber)
  -- whatever is restored into the wide one, its stops beyond column 80 and its send are left, and it stays possible
  pub alone : (store : List ℕ) (n : ℕ) → LeavesAlone wide (restore_rule wide store n).state
  pub stays : (store : List ℕ) (n : ℕ) → possible (restore_rule wide store n).state ≡ true
