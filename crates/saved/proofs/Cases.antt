-- The worked set-ups and stores hold: the definitions are computed.
-- Assumes nothing.
use mathlib.Core.Path.{refl}
use mathlib.Core.List.{[], ◌∷◌}
use Prim.Native.Nat.{ℕ, zero, suc, ◌<◌}
use native.Mathlib.Omega.{arith}
use lib.ListN.{get_or}
use Rattle.rules.specs.Row.{columns}
use Rattle.rules.specs.Arguments.{is_attribute, feature_place}
use Rattle.rules.specs.Slot.{is_text, all_text, text_ok, texts_ok}
use Rattle.rules.specs.Possible.{power_on, screen_ok, unsplit_ok, attributes_ok, features_ok, no_stops, pending_ok, remembered_ok, sending_ok, core_ok, setup_ok}
use Rattle.rules.specs.Possible.{possible}
use Rattle.saved.specs.SetupBytes.{stop_bytes, by_code, feature_bytes, attribute_bytes, text_bytes, texts_bytes, key_value, label_value, setup_bytes}
use Rattle.saved.specs.Settings.{with_settings}
use Rattle.saved.specs.Store.{place, cut, joined, laid, after_save, all_zero, is_place, places_ok, is_store}
use Rattle.saved.specs.Calls.{save_rule, restore_rule}
use Rattle.saved.specs.Cases.{Bytes, Restored, Stores, Numbers, Calls, Worked}

bytes : Bytes
unfolding power_on stop_bytes by_code feature_bytes attribute_bytes text_bytes texts_bytes key_value label_value setup_bytes
bytes = record {
  stops = refl;
  features = refl;
  look = refl;
  attributes = refl;
  key = refl;
  keys = refl;
  labels = refl;
  power_on_lem = refl;
  front = refl;
  back = refl;
  longest = refl;
  first_key = refl;
}

restored : Restored
unfolding power_on with_settings
restored = record { keys = refl; labels = refl; stops = refl; shifted = refl }

-- the one byte of a list, and none behind it
each : (i : ℕ) → get_or (0xff ∷ []) i 0 < 256
each zero = omega arith
each (suc i) = omega arith

stores : Stores
unfolding place cut joined laid after_save all_zero is_place places_ok is_store
stores = record {
  number = refl;
  read = refl;
  end = refl;
  byte = each;
  first = refl;
  behind = refl;
  size = refl;
  last = refl;
  over = refl;
  kept = refl;
  placed = refl;
  zero = refl;
  short = refl;
  rubbish = refl;
  long = refl;
  dirty = refl;
}

numbers : Numbers
numbers = record { none = refl; three = refl; nine = refl; last = refl }

calls : Calls
unfolding save_rule restore_rule possible core_ok setup_ok power_on columns no_stops screen_ok unsplit_ok texts_ok text_ok all_text is_text attributes_ok is_attribute
    features_ok feature_place remembered_ok pending_ok sending_ok cut all_zero places_ok is_store
calls = record {
  first = refl;
  save_state = refl;
  save_store = refl;
  restore_state = refl;
  restore_store = refl;
  restore_number_lem = refl;
  restore_above = refl;
}

pub worked : Worked
worked = record { bytes = bytes; restored = restored; stores = stores; numbers = numbers; calls = calls }
