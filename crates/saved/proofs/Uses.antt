-- The uses hold, each by the statement it is of.
-- Assumes nothing.
use mathlib.Core.Path.{◌≡◌, refl}
use mathlib.Core.Bool.{true}
use mathlib.Core.List.{List}
use Prim.Native.Nat.{ℕ}
use native.Mathlib.Omega.{arith}
use lib.ListN.{length}
use Rattle.rules.specs.Row.{columns}
use Rattle.rules.specs.State.{segment_top, cursor_of}
use Rattle.rules.specs.Arguments.{is_attribute, feature_place}
use Rattle.rules.specs.Slot.{is_text, all_text, text_ok, texts_ok}
use Rattle.rules.specs.Possible.{power_on, screen_ok, unsplit_ok, attributes_ok, features_ok, no_stops, pending_ok, remembered_ok, place_ok, sending_ok, core_ok}
use Rattle.rules.specs.Possible.{setup_ok, possible}
use Rattle.saved.specs.SetupBytes.{stop_bytes, by_code, feature_bytes, attribute_bytes, text_bytes, texts_bytes, key_value, label_value, setup_bytes}
use Rattle.saved.specs.Settings.{Saved}
use Rattle.saved.specs.Store.{Saves, none, Leaves}
use Rattle.saved.specs.Calls.{save_rule}
use Rattle.saved.specs.SavedSetups.{Possible, OfBoth}
use Rattle.saved.specs.Cases.{on, zeros}
use Rattle.saved.specs.Uses.{wide, kept, Uses}
use Rattle.saved.proofs.SavedSetups.{saved_setups}

-- the states, and the store where nothing was saved
wide_possible : Possible wide
unfolding possible core_ok setup_ok power_on columns no_stops screen_ok unsplit_ok texts_ok text_ok all_text is_text attributes_ok is_attribute features_ok
    feature_place remembered_ok pending_ok place_ok sending_ok segment_top cursor_of
wide_possible = record {
  shaped = record { tabs = refl; attributes = refl; features = refl; keys = refl; labels = refl };
  possible = refl;
}

on_possible : possible on ≡ true
unfolding possible core_ok setup_ok power_on columns no_stops screen_ok unsplit_ok texts_ok text_ok all_text is_text attributes_ok is_attribute features_ok
    feature_place remembered_ok pending_ok sending_ok
on_possible = refl

zeros_leaves : Leaves zeros
zeros_leaves = record { count = 0; saves = none }

longest : length (setup_bytes wide.setup) ≡ 1087
unfolding power_on stop_bytes by_code feature_bytes attribute_bytes text_bytes texts_bytes key_value label_value setup_bytes
longest = refl

wide_saved : Saved (setup_bytes wide.setup)
wide_saved = record { state = wide; shaped = wide_possible.shaped; possible = wide_possible.possible; bytes_of = refl }

both : (more : ℕ) (later : List ℕ) → Saves kept more later → OfBoth wide on zeros more later
both more later = saved_setups.of_both wide on zeros more later wide_possible on_possible zeros_leaves (omega arith)

saves_it : ((save_rule wide zeros).answer ≡ 0) × (((save_rule wide zeros).number ≡ 1) × Leaves kept)
saves_it = (saved_setups.of_save wide zeros).done wide_possible zeros_leaves (omega arith)

pub uses : Uses
uses = record {
  is_possible = wide_possible;
  longest = longest;
  short = λ s. saved_setups.of_bytes.short s;
  gives = λ m room. saved_setups.of_bytes.gives m wide room wide_possible;
  saved = wide_saved;
  is_setup_lem = saved_setups.of_bytes.complete (setup_bytes wide.setup) wide_saved;
  done = saves_it.0;
  first = saves_it.1.0;
  leaves = saves_it.1.1;
  is_store_lem = saved_setups.of_stores.complete kept saves_it.1.1;
  back = λ more later h m. (both more later h).back m;
  gone = λ later h. (both 8 later h).gone (omega arith);
  alone = λ store n. (saved_setups.of_restore wide store n).leaves;
  stays = λ store n. (saved_setups.of_restore wide store n).possible wide_possible.possible;
}
