-- The worked sessions hold: the rules are computed.
-- Assumes nothing.
use mathlib.Core.Path.{refl}
use Rattle.rules.specs.Cell.{same}
use Rattle.rules.specs.Row.{columns, row_end}
use Rattle.rules.specs.Search.{which_cells, others, starts_from, first_in, last_in, around, around_back}
use Rattle.rules.specs.Change.{within, filled, shift_left, shift_right, edit_shifted, rows_shifted, column_filled}
use Rattle.rules.specs.State.{segment_top, segment_bottom, cursor_of, with_cursor, with_mode, changed, stored, sending_after, gathered_after, setup_after}
use Rattle.rules.specs.Possible.{power_on, blank, unsplit_ok, split_ok, screen_ok, attributes_ok, features_ok, pending_ok, remembered_ok, place_ok, sending_ok}
use Rattle.rules.specs.Possible.{no_stops, core_ok, setup_ok, possible, good}
use Rattle.rules.specs.Arguments.{is_attribute, attribute_contents, attribute_of, feature_place, is_key, is_label}
use Rattle.rules.specs.Slot.{slot_ok, slot_end, slot_most, slot_low, is_text, all_text, text_ok, texts_ok}
use Rattle.rules.specs.Decode.{lookup, idle_rule, escape_rule, judged, feature_rule, field_rule, split_rule, digit_rule, decimal_row_rule, decimal_column_rule}
use Rattle.rules.specs.Decode.{slot_rule, text_rule, spoilt_rule, argument_rule, decode_rule}
use Rattle.rules.specs.Plan.{unless_guarded, scrolls, next_cell, at_top, up_cell, reverse_plan, down_plan, tab_cell, back_tab_cell, address_plan, move_plan}
use Rattle.rules.specs.Plan.{activate, is_segment, window_plan, storing, advancing, store_plan, takes_cell, attribute_plan, row_edit_plan, edit_plan}
use Rattle.rules.specs.Plan.{clear_plan, setting_plan, unless_wide, send_plan, excluded_plan, plan_rule}
use Rattle.rules.specs.Send.{model, open_cell, short_reply, each, cell_place, text_places, follows_left_out, text_at, places, bytes_of, beyond, standing}
use Rattle.rules.specs.Send.{sent_from, left_from}
use Rattle.rules.specs.Carry.{applied, landed, done, begun, carried}
use Rattle.rules.specs.Step.{obeyed, inner_rule, goes_on, step_inside, step_rule}
use Rattle.rules.specs.Calls.{joined, repeated, behind, run_inside, run_rule, key_sends, press_rule, of_step, of_run, of_press, call_rule, after, play}
use Rattle.rules.specs.Theorems.Noninterference.{completes, run_completes, inside_completes, call_completes, any_completed}
use Rattle.rules.specs.Cases.Inputs.{esc, page_of, cursor_at, protect_at, placed_on}
use Rattle.rules.specs.Next.{at_event, to_event, next_inside, next_rule}
use Rattle.rules.specs.RowList.{first_column, row_numbers}
use Rattle.rules.specs.RowCalls.{step_rows_rule, run_rows_rule, next_rows_rule, rows_after, can_rebuild, row_call_rule, bare_call}
use Rattle.rules.specs.Cases.RowCases.{rows_with, open_rows}
use Rattle.saved.specs.SetupBytes.{stop_bytes, by_code, feature_bytes, attribute_bytes, text_bytes, texts_bytes, key_value, label_value, setup_bytes}
use Rattle.saved.specs.Settings.{with_settings, fed}
use Rattle.saved.specs.Store.{place, cut, laid, after_save, all_zero, is_setup, is_place, places_ok, is_store}
use Rattle.saved.specs.Calls.{save_rule, restored, restore_rule}
use Rattle.session.specs.Sessions.{session_rule, session_after, session_play, call_completed, session_completed, call_of, host_bytes, stream_play}
use Rattle.session.specs.Sessions.{calls_of}
use Rattle.session.specs.Cases.{told_by, replies_in, answers_in, Worked}
use Rattle.saved.specs.Store as Store

pub worked : Worked
unfolding same columns row_end which_cells others starts_from first_in last_in around around_back within filled shift_left shift_right edit_shifted rows_shifted column_filled segment_top segment_bottom cursor_of with_cursor with_mode changed stored sending_after gathered_after setup_after power_on blank unsplit_ok split_ok screen_ok attributes_ok features_ok pending_ok remembered_ok place_ok sending_ok no_stops core_ok setup_ok possible good is_attribute attribute_contents attribute_of feature_place is_key is_label slot_ok slot_end slot_most slot_low is_text all_text text_ok texts_ok lookup idle_rule escape_rule judged feature_rule field_rule split_rule digit_rule decimal_row_rule decimal_column_rule slot_rule text_rule spoilt_rule argument_rule decode_rule unless_guarded scrolls next_cell at_top up_cell reverse_plan down_plan tab_cell back_tab_cell address_plan move_plan activate is_segment window_plan storing advancing store_plan takes_cell attribute_plan row_edit_plan edit_plan clear_plan setting_plan unless_wide send_plan excluded_plan plan_rule model open_cell short_reply each cell_place text_places follows_left_out text_at places bytes_of beyond standing sent_from left_from applied landed done begun carried obeyed inner_rule goes_on step_inside step_rule joined repeated behind run_inside run_rule key_sends press_rule of_step of_run of_press call_rule after play completes run_completes inside_completes call_completes any_completed esc page_of cursor_at protect_at placed_on at_event to_event next_inside next_rule first_column row_numbers step_rows_rule run_rows_rule next_rows_rule rows_after can_rebuild row_call_rule bare_call rows_with open_rows stop_bytes by_code feature_bytes attribute_bytes text_bytes texts_bytes key_value label_value setup_bytes with_settings fed place cut laid after_save all_zero is_setup is_place places_ok is_store save_rule restored restore_rule session_rule session_after session_play call_completed session_completed call_of host_bytes stream_play calls_of told_by replies_in answers_in Store.joined
worked = record {
  completed = record { six = refl; each_call = refl; wide = refl; others = refl; texts = refl; listed = refl; impossible = refl };
  given = record { saves = refl; stores = refl; lists = refl; key = refl; impossible = refl; short_store = refl; short_list = refl };
  stream = record { narrow = refl; left = refl; replies = refl; steps = refl };
}
