-- Every attribute that a personality may remember is reached: ESC G and its code set it, from power-on.
-- Assumes nothing.
use mathlib.Core.Path.{◌≡◌, refl}
use mathlib.Core.Bool.{Bool, true}
use Prim.Native.Nat.{ℕ}
use lib.Dec.{eqb}
use borrow.Author.Tests.{eqb-true, ltb-true}
use Rattle.rules.specs.declared.Personality.{Personality}
use Rattle.rules.specs.declared.Personality.TheVariants as Personality
use Rattle.rules.specs.Row.{columns, row_end}
use Rattle.rules.specs.Search.{which_cells, others, starts_from, first_in, last_in, around, around_back}
use Rattle.rules.specs.Change.{within, filled, shift_left, shift_right, edit_shifted, rows_shifted, column_filled}
use Rattle.rules.specs.State.{segment_top, segment_bottom, cursor_of, with_cursor, with_mode, changed, stored, sending_after, gathered_after}
use Rattle.rules.specs.State.{setup_after}
use Rattle.rules.specs.Possible.{power_on, blank, unsplit_ok, split_ok, screen_ok, attributes_ok, features_ok, pending_ok, remembered_ok, place_ok}
use Rattle.rules.specs.Possible.{sending_ok, no_stops, core_ok, setup_ok, possible, good}
use Rattle.rules.specs.Arguments.{is_attribute, attribute_contents, attribute_of, feature_place, is_key, is_label}
use Rattle.rules.specs.Slot.{slot_ok, slot_end, slot_most, slot_low, is_text, all_text, text_ok, texts_ok}
use Rattle.rules.specs.Decode.{lookup, idle_rule, escape_rule, judged, feature_rule, field_rule, split_rule, digit_rule, decimal_row_rule}
use Rattle.rules.specs.Decode.{decimal_column_rule, slot_rule, text_rule, spoilt_rule, argument_rule, decode_rule}
use Rattle.rules.specs.Plan.{unless_guarded, scrolls, next_cell, at_top, up_cell, reverse_plan, down_plan, tab_cell, back_tab_cell, address_plan}
use Rattle.rules.specs.Plan.{move_plan, activate, is_segment, window_plan, storing, advancing, store_plan, takes_cell, attribute_plan, row_edit_plan}
use Rattle.rules.specs.Plan.{edit_plan, clear_plan, setting_plan, send_plan, excluded_plan, plan_rule}
use Rattle.rules.specs.Send.{model, open_cell, short_reply, each, cell_place, text_places, follows_left_out, text_at, places, bytes_of, beyond}
use Rattle.rules.specs.Send.{standing, sent_from, left_from}
use Rattle.rules.specs.Carry.{applied, landed, done, begun, carried}
use Rattle.rules.specs.Step.{obeyed, inner_rule, goes_on, step_inside, step_rule}
use Rattle.rules.specs.Calls.{joined, repeated, behind, run_inside, run_rule, key_sends, press_rule, of_step, of_run, of_press, call_rule, after, play}
use Rattle.rules.specs.Theorems.Reach.{attribute_bytes}
use Rattle.rules.proofs.ExcludedBytes.{values, below}

abbrev remembered : Personality → ℕ → ℕ
remembered m a = (run_rule blank (power_on m) (attribute_bytes a) 1944).state.core.attribute

normal_reached : remembered Personality.Wy50 0 ≡ 0
unfolding attribute_bytes columns row_end which_cells others starts_from first_in last_in around around_back
    within filled shift_left shift_right edit_shifted rows_shifted column_filled segment_top segment_bottom cursor_of with_cursor with_mode changed stored sending_after gathered_after setup_after
    power_on blank unsplit_ok split_ok screen_ok is_label slot_ok slot_end slot_most slot_low is_text all_text text_ok texts_ok is_attribute attributes_ok feature_place features_ok is_key pending_ok remembered_ok place_ok sending_ok
    no_stops core_ok setup_ok possible good lookup idle_rule escape_rule judged attribute_contents attribute_of feature_rule field_rule split_rule digit_rule decimal_row_rule
    decimal_column_rule slot_rule text_rule spoilt_rule argument_rule decode_rule unless_guarded scrolls next_cell at_top up_cell reverse_plan down_plan
    tab_cell back_tab_cell address_plan move_plan activate is_segment window_plan storing advancing store_plan takes_cell attribute_plan row_edit_plan edit_plan clear_plan
    setting_plan send_plan excluded_plan plan_rule applied model open_cell short_reply each cell_place text_places follows_left_out text_at places bytes_of beyond standing sent_from left_from landed done begun carried obeyed
    inner_rule step_rule joined repeated behind run_inside run_rule key_sends press_rule of_step of_run of_press call_rule after play
normal_reached = refl

all_reached : values 31 (λ a. eqb (remembered Personality.Wy60 a) a) ≡ values 31 (λ a. true)
unfolding attribute_bytes columns row_end which_cells others starts_from first_in last_in around around_back
    within filled shift_left shift_right edit_shifted rows_shifted column_filled segment_top segment_bottom cursor_of with_cursor with_mode changed stored sending_after gathered_after setup_after
    power_on blank unsplit_ok split_ok screen_ok is_label slot_ok slot_end slot_most slot_low is_text all_text text_ok texts_ok is_attribute attributes_ok feature_place features_ok is_key pending_ok remembered_ok place_ok sending_ok
    no_stops core_ok setup_ok possible good lookup idle_rule escape_rule judged attribute_contents attribute_of feature_rule field_rule split_rule digit_rule decimal_row_rule
    decimal_column_rule slot_rule text_rule spoilt_rule argument_rule decode_rule unless_guarded scrolls next_cell at_top up_cell reverse_plan down_plan
    tab_cell back_tab_cell address_plan move_plan activate is_segment window_plan storing advancing store_plan takes_cell attribute_plan row_edit_plan edit_plan clear_plan
    setting_plan send_plan excluded_plan plan_rule applied model open_cell short_reply each cell_place text_places follows_left_out text_at places bytes_of beyond standing sent_from left_from landed done begun carried obeyed
    inner_rule step_rule joined repeated behind run_inside run_rule key_sends press_rule of_step of_run of_press call_rule after play
all_reached = refl

pub attribute_reached : (m : Personality) (a : ℕ) → remembered_ok m a ≡ true → remembered m a ≡ a
unfolding remembered_ok
attribute_reached Personality.Wy50 a h = rw (eqb-true a 0 h) normal_reached
attribute_reached Personality.Wy60 a h =
    eqb-true (remembered Personality.Wy60 a) a
    (below 31 (λ a. eqb (remembered Personality.Wy60 a) a) (λ a. true) all_reached a (ltb-true a 31 h))
