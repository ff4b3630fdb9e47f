-- The cases at 132 columns hold: the rules are computed on the page of 3,168 cells.
use mathlib.Core.Path.{refl}
use Rattle.rules.specs.Cell.{same}
use Rattle.rules.specs.Row.{columns, row_end}
use Rattle.rules.specs.Search.{which_cells, others, starts_from, first_in, last_in, around, around_back}
use Rattle.rules.specs.Change.{within, filled, shift_left, shift_right, edit_shifted, rows_shifted, column_filled}
use Rattle.rules.specs.State.{segment_top, segment_bottom, cursor_of, with_cursor, with_mode, changed, stored, sending_after, gathered_after}
use Rattle.rules.specs.State.{setup_after}
use Rattle.rules.specs.Possible.{power_on, blank, unsplit_ok, split_ok, screen_ok, attributes_ok, features_ok, pending_ok, remembered_ok, place_ok}
use Rattle.rules.specs.Possible.{sending_ok, no_stops, core_ok, setup_ok, possible, good}
use Rattle.rules.specs.Arguments.{is_attribute, attribute_contents, attribute_of, feature_place, is_key, is_label}
use Rattle.rules.specs.Slot.{slot_ok, slot_end, slot_most, slot_low, is_text, all_text, text_ok, texts_ok}
use Rattle.rules.specs.Decode.{lookup, idle_rule, escape_rule, judged, feature_rule, field_rule, split_rule, digit_rule, decimal_row_rule}
use Rattle.rules.specs.Decode.{decimal_column_rule, slot_rule, text_rule, spoilt_rule, argument_rule, decode_rule}
use Rattle.rules.specs.Plan.{unless_guarded, scrolls, next_cell, at_top, up_cell, reverse_plan, down_plan, tab_cell, back_tab_cell, address_plan}
use Rattle.rules.specs.Plan.{move_plan, activate, is_segment, window_plan, storing, advancing, store_plan, takes_cell, attribute_plan, row_edit_plan}
use Rattle.rules.specs.Plan.{edit_plan, clear_plan, setting_plan, unless_wide, send_plan, excluded_plan, plan_rule}
use Rattle.rules.specs.Send.{model, open_cell, short_reply, each, cell_place, text_places, follows_left_out, text_at, places, bytes_of, beyond}
use Rattle.rules.specs.Send.{standing, sent_from, left_from}
use Rattle.rules.specs.Carry.{applied, landed, done, begun, carried}
use Rattle.rules.specs.Step.{obeyed, inner_rule, goes_on, step_inside, step_rule}
use Rattle.rules.specs.Calls.{power_on_rule, joined, repeated, behind, run_inside, run_rule, key_sends, press_rule, of_step, of_run, of_press, call_rule}
use Rattle.rules.specs.Calls.{after, play}
use Rattle.rules.specs.Cases.Bench.{replies, answers, counts_of, rests_of, segments_of, modes_of, stops_from, send_numbers, holds, all_hold, cases_hold}
use Rattle.rules.specs.Cases.Bench.{host}
use Rattle.rules.specs.Cases.Inputs.{esc, go_to, placed_on, obeys}
use Rattle.rules.specs.Next.{at_event, to_event, next_inside, next_rule, reply_command}
use Rattle.rules.specs.Cases.NextCases.{next_holds, next_refuses}
use Rattle.rules.specs.RowList.{first_column, row_numbers}
use Rattle.rules.specs.RowCalls.{step_rows_rule, run_rows_rule, rows_after, can_rebuild, row_call_rule, row_after, row_play}
use Rattle.rules.specs.Cases.RowCases.{rows_with, open_rows, row_holds, row_cases_hold}
use Rattle.rules.specs.Cases.Wide.{wide_page, wide_at, wide_protect_at, wide_from, wide_refuses, wide, go_decimal, feature, wide_cases, wide_rows}
use Rattle.rules.specs.Cases.Wide.{WideList}

pub wide_cases_lem : WideList
unfolding same columns row_end which_cells others starts_from first_in last_in around around_back within filled shift_left shift_right edit_shifted
    rows_shifted column_filled segment_top segment_bottom cursor_of with_cursor with_mode changed stored sending_after gathered_after setup_after
    power_on blank unsplit_ok split_ok screen_ok attributes_ok features_ok pending_ok remembered_ok place_ok sending_ok no_stops core_ok setup_ok
    possible good is_attribute attribute_contents attribute_of feature_place is_key is_label slot_ok slot_end slot_most slot_low is_text all_text text_ok
    texts_ok lookup idle_rule escape_rule judged feature_rule field_rule split_rule digit_rule decimal_row_rule decimal_column_rule slot_rule text_rule
    spoilt_rule argument_rule decode_rule unless_guarded scrolls next_cell at_top up_cell reverse_plan down_plan tab_cell back_tab_cell address_plan
    move_plan activate is_segment window_plan storing advancing store_plan takes_cell attribute_plan row_edit_plan edit_plan clear_plan setting_plan
    unless_wide send_plan excluded_plan plan_rule model open_cell short_reply each cell_place text_places follows_left_out text_at places bytes_of
    beyond standing sent_from left_from applied landed done begun carried obeyed inner_rule goes_on step_inside step_rule power_on_rule joined repeated behind
    run_inside run_rule key_sends press_rule of_step of_run of_press call_rule after play replies answers counts_of rests_of segments_of modes_of
    stops_from send_numbers holds all_hold cases_hold host esc go_to placed_on obeys at_event to_event next_inside next_rule reply_command next_holds
    next_refuses first_column row_numbers step_rows_rule run_rows_rule rows_after can_rebuild row_call_rule row_after row_play rows_with open_rows row_holds
    row_cases_hold wide_page wide_at wide_protect_at wide_from wide_refuses wide go_decimal feature wide_cases wide_rows
wide_cases_lem = record { cases = refl; power_on_lem = refl; rows = refl; next_narrow = refl; next_wide = refl }
