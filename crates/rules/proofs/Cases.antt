-- The worked cases hold: the rules are computed on the page of 1,920 cells.
use mathlib.Core.Path.{refl}
use Rattle.rules.specs.Cell.{same}
use Rattle.rules.specs.Row.{columns, row_end}
use Rattle.rules.specs.Search.{which_cells, others, starts_from, first_in, last_in, around, around_back}
use Rattle.rules.specs.Change.{within, filled, shift_left, shift_right, edit_shifted, rows_shifted, column_filled}
use Rattle.rules.specs.State.{segment_top, segment_bottom, cursor_of, with_cursor, with_mode, changed, stored, sending_after, gathered_after}
use Rattle.rules.specs.State.{setup_after}
use Rattle.rules.specs.Possible.{power_on, blank, unsplit_ok, split_ok, screen_ok, attributes_ok, features_ok, pending_ok, remembered_ok, place_ok}
use Rattle.rules.specs.Possible.{sending_ok, no_stops, core_ok, setup_ok, possible, good}
use Rattle.rules.specs.Arguments.{is_attribute, attribute_contents, attribute_of, feature_place, is_key, is_label}
use Rattle.rules.specs.Slot.{slot_ok, slot_end, slot_most, slot_low, is_text, all_text, text_ok, texts_ok}
use Rattle.rules.specs.Decode.{lookup, idle_rule, escape_rule, judged, feature_rule, field_rule, split_rule, digit_rule, decimal_row_rule}
use Rattle.rules.specs.Decode.{decimal_column_rule, slot_rule, text_rule, spoilt_rule, argument_rule, decode_rule}
use Rattle.rules.specs.Plan.{unless_guarded, scrolls, next_cell, at_top, up_cell, reverse_plan, down_plan, tab_cell, back_tab_cell, address_plan}
use Rattle.rules.specs.Plan.{move_plan, activate, is_segment, window_plan, storing, advancing, store_plan, takes_cell, attribute_plan, row_edit_plan}
use Rattle.rules.specs.Plan.{edit_plan, clear_plan, setting_plan, unless_wide, send_plan, excluded_plan, plan_rule}
use Rattle.rules.specs.Send.{model, open_cell, short_reply, each, cell_place, text_places, follows_left_out, text_at, places, bytes_of, beyond}
use Rattle.rules.specs.Send.{standing, sent_from, left_from}
use Rattle.rules.specs.Carry.{applied, landed, done, begun, carried}
use Rattle.rules.specs.Step.{obeyed, inner_rule, goes_on, step_inside, step_rule}
use Rattle.rules.specs.Calls.{power_on_rule, joined, repeated, behind, run_inside, run_rule, key_sends, press_rule, of_step, of_run, of_press, call_rule}
use Rattle.rules.specs.Calls.{after, play}
use Rattle.rules.specs.Room.{over}
use Rattle.rules.specs.Theorems.Noninterference.{completes, run_completes, inside_completes, call_completes, any_completed}
use Rattle.rules.specs.Theorems.Completed.{completes_from, step_completes}
use Rattle.rules.specs.Cases.Bench.{replies, answers, counts_of, rests_of, segments_of, modes_of, stops_from, send_numbers, held_bytes, holds, all_hold}
use Rattle.rules.specs.Cases.Bench.{cases_hold, host, none_hold, wrong_claims}
use Rattle.rules.specs.Cases.Inputs.{esc, go_to, labelled, halves, lower, three_letters, letters_below, page_of, cursor_at, protect_at, upper_at}
use Rattle.rules.specs.Cases.Inputs.{placed_on, lower_at, belled, full_keys, typed, obeys, refuses, obeys_from, refuses_from}
use Rattle.rules.specs.Cases.MovingCases.{moving_cases}
use Rattle.rules.specs.Cases.WritingCases.{writing_bytes, writing_cases}
use Rattle.rules.specs.Cases.ReplyCases.{reply_cases}
use Rattle.rules.specs.Cases.CallCases.{call_cases}
use Rattle.rules.specs.Cases.LabelCases.{message, labelling, label_cases}
use Rattle.rules.specs.Cases.SendCases.{two_fields, two_label_rows, label_over_row_end, send_cases}
use Rattle.rules.specs.Cases.NarrowCases.{form, two_rows, narrow_cases}
use Rattle.rules.specs.Next.{at_event, to_event, next_inside, next_rule, reply_command}
use Rattle.rules.specs.Cases.NextCases.{next_holds, next_cases_hold, in_send, next_cases, next_refuses, impossible}
use Rattle.rules.specs.RowList.{first_column, row_numbers}
use Rattle.rules.specs.RowCalls.{step_rows_rule, run_rows_rule, next_rows_rule, rows_after, can_rebuild, row_call_rule, row_after, row_play}
use Rattle.rules.specs.Cases.RowCases.{rows_with, open_rows, row_holds, row_cases_hold, from_power_on, row_cases}
use Rattle.rules.specs.Cases.PersonalityCases.{as60, obeys60, refuses60, attr, graphic, flagged_cells, personality_cases}
use Rattle.rules.specs.Cases.ByteCases.{span, last_answer, tried_hold, bytes_hold, low, high, digit_bytes, attribute_bytes, escape_bytes, first_bytes}
use Rattle.rules.specs.Cases.ByteCases.{argument_bytes, address_bytes, decimal_bytes}
use Rattle.rules.specs.Cases.PossibleCases.{placed, placed_wide, keyed, labelled_at, messaged, attributed, featured, stopped, shifted_on}
use Rattle.rules.specs.Cases.PossibleCases.{remembering, gathering, possible_states, impossible_states, all_possible, none_possible}
use Rattle.rules.specs.Cases.Cases.{CaseList}

pub cases : CaseList
unfolding completes run_completes inside_completes call_completes any_completed completes_from step_completes same replies answers held_bytes holds all_hold cases_hold host none_hold wrong_claims
    esc go_to labelled halves lower three_letters letters_below page_of cursor_at protect_at upper_at placed_on lower_at belled full_keys typed obeys refuses
    obeys_from refuses_from counts_of rests_of segments_of modes_of stops_from send_numbers moving_cases writing_cases reply_cases call_cases two_fields two_label_rows label_over_row_end send_cases form two_rows narrow_cases as60 obeys60 refuses60 attr graphic flagged_cells personality_cases span last_answer
    tried_hold bytes_hold low high digit_bytes attribute_bytes writing_bytes escape_bytes first_bytes argument_bytes address_bytes decimal_bytes placed placed_wide keyed
    labelled_at messaged shifted_on remembering gathering message labelling label_cases attributed featured stopped possible_states impossible_states all_possible none_possible over power_on_rule columns row_end which_cells others
    starts_from first_in last_in around around_back within filled shift_left shift_right edit_shifted rows_shifted column_filled segment_top
    segment_bottom cursor_of with_cursor with_mode changed stored sending_after gathered_after setup_after power_on blank unsplit_ok split_ok screen_ok is_label slot_ok slot_end slot_most slot_low is_text all_text text_ok texts_ok is_attribute
    attributes_ok feature_place features_ok is_key pending_ok remembered_ok place_ok sending_ok no_stops core_ok setup_ok possible good lookup idle_rule escape_rule judged attribute_contents attribute_of
    feature_rule field_rule split_rule digit_rule decimal_row_rule decimal_column_rule slot_rule text_rule spoilt_rule argument_rule decode_rule unless_guarded
    scrolls next_cell at_top up_cell reverse_plan down_plan tab_cell back_tab_cell address_plan move_plan activate is_segment window_plan storing
    advancing store_plan takes_cell attribute_plan row_edit_plan edit_plan clear_plan setting_plan unless_wide send_plan excluded_plan plan_rule applied model open_cell short_reply each cell_place text_places follows_left_out text_at places bytes_of beyond standing sent_from left_from landed done begun carried obeyed inner_rule goes_on step_inside step_rule joined repeated behind run_inside run_rule key_sends press_rule of_step of_run
    of_press call_rule after play first_column row_numbers step_rows_rule run_rows_rule next_rows_rule rows_after can_rebuild row_call_rule row_after row_play rows_with open_rows
    row_holds row_cases_hold from_power_on row_cases at_event to_event next_inside next_rule reply_command next_holds next_cases_hold in_send next_cases next_refuses impossible
cases = record {
  read = refl;
  second_claim = refl;
  second_case = refl;
  moving = refl;
  writing = refl;
  replying = refl;
  calling = refl;
  labels = refl;
  sending = refl;
  narrow = refl;
  next = refl;
  next_page = refl;
  next_state = refl;
  rows = refl;
  wide_rows_lem = refl;
  personalities = refl;
  first = refl;
  argument = refl;
  address = refl;
  decimal = refl;
  possible = refl;
  impossible = refl;
  power_on_lem = refl;
  short_page = refl;
  long_page = refl;
  power_on_60 = refl;
  short_page_60 = refl;
  room = refl;
  completed = record {
    in_run = refl;
    in_steps = refl;
    behind = refl;
    as_text = refl;
    begun = refl;
    behind_a_send = refl;
    in_a_send = refl;
    no_room = refl;
    as_argument = refl;
    others = refl;
  };
}
