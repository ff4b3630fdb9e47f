-- The settings of a set-up: what is saved and restored. Host message, shifted line and wish are none.
use Rattle.std.specs.Prelude.{◌≡◌, List, ◌++◌, map, true, ℕ, length, take, drop}
use Rattle.rules.specs.declared.Setup.{Setup}
use Rattle.rules.specs.declared.State.{State}
use Rattle.rules.specs.declared.Personality.{Personality}
use Rattle.rules.specs.Row.{addressed}
use Rattle.rules.specs.State.{short_bytes, with_tabs, with_attributes, with_features, with_keys, with_labels}
use Rattle.rules.specs.Possible.{power_on, blank, possible}
use Rattle.rules.specs.Calls.{run_rule}
use Rattle.saved.specs.SetupBytes.{setup_bytes}

-- two set-ups have the same settings
pub record SameSettings (u v : Setup) : Type 0 where
  pub stops : take addressed u.tabs ≡ take addressed v.tabs
  pub features : u.features ≡ v.features
  pub attributes : u.attributes ≡ v.attributes
  pub keys : map short_bytes u.keys ≡ map short_bytes v.keys
  pub labels : map short_bytes u.labels ≡ map short_bytes v.labels

-- the settings of v, and all else of u
unfoldable pub with_settings : Setup → Setup → Setup
with_settings v u =
    with_labels (with_keys (with_features (with_attributes (with_tabs u (take addressed v.tabs ++ drop addressed u.tabs)) v.attributes)
    v.features)
    v.keys) v.labels u.shifted

abbrev pub with_setup : State → Setup → State
with_setup s u = record { core = s.core; sending = s.sending; gathered = s.gathered; setup = u }

-- the set-up of a power-on terminal after the bytes, fed without room for a reply
unfoldable pub fed : Personality → List ℕ → Setup
fed m bytes = (run_rule blank (power_on m) bytes 0).state.setup

-- how many of each a set-up has
pub record Shaped (u : Setup) : Type 0 where
  pub tabs : length u.tabs ≡ 132
  pub attributes : length u.attributes ≡ 4
  pub features : length u.features ≡ 5
  pub keys : length u.keys ≡ 32
  pub labels : length u.labels ≡ 16

-- the bytes of some possible state's settings
pub record Saved (bytes : List ℕ) : Type 0 where
  pub state : State
  pub shaped : Shaped state.setup
  pub possible : possible state ≡ true
  pub bytes_of : setup_bytes state.setup ≡ bytes
