-- Each part that a row of Frames lists does change: computed on the page of 1,920 cells.
use mathlib.Core.Path.{refl}
use Rattle.rules.specs.Cell.{same}
use Rattle.rules.specs.Row.{columns, row_end}
use Rattle.rules.specs.Search.{which_cells, others, starts_from, first_in, last_in, around, around_back}
use Rattle.rules.specs.Change.{within, filled, shift_left, shift_right, edit_shifted, rows_shifted, column_filled}
use Rattle.rules.specs.State.{segment_top, segment_bottom, cursor_of, with_cursor, with_mode, changed, stored, sending_after, gathered_after}
use Rattle.rules.specs.State.{setup_after}
use Rattle.rules.specs.Possible.{power_on, blank, unsplit_ok, split_ok, screen_ok, attributes_ok, features_ok, pending_ok, remembered_ok, place_ok}
use Rattle.rules.specs.Possible.{sending_ok, no_stops, core_ok, setup_ok, possible, good}
use Rattle.rules.specs.Arguments.{is_attribute, attribute_contents, attribute_of, feature_place, is_key, is_label}
use Rattle.rules.specs.Slot.{slot_ok, slot_end, slot_most, slot_low, is_text, all_text, text_ok, texts_ok}
use Rattle.rules.specs.Decode.{lookup, idle_rule, escape_rule, judged, feature_rule, field_rule, split_rule, digit_rule, decimal_row_rule}
use Rattle.rules.specs.Decode.{decimal_column_rule, slot_rule, text_rule, spoilt_rule, argument_rule, decode_rule}
use Rattle.rules.specs.Plan.{unless_guarded, scrolls, next_cell, at_top, up_cell, reverse_plan, down_plan, tab_cell, back_tab_cell, address_plan}
use Rattle.rules.specs.Plan.{move_plan, activate, is_segment, window_plan, storing, advancing, store_plan, takes_cell, attribute_plan, row_edit_plan}
use Rattle.rules.specs.Plan.{edit_plan, clear_plan, setting_plan, unless_wide, send_plan, excluded_plan, plan_rule}
use Rattle.rules.specs.Carry.{applied, landed, done, begun, carried}
use Rattle.rules.specs.Step.{obeyed, inner_rule, goes_on, step_inside, step_rule}
use Rattle.rules.specs.Calls.{of_step, after}
use Rattle.rules.specs.Cases.Inputs.{esc, go_to, page_of, cursor_at, protect_at, upper_at, placed_on, lower_at, typed}
use Rattle.rules.specs.Cases.FrameCases.{text_numbers, numbers_of, differs, row_of, shows, any_shows, all_shown, one_row, row_shown, rows_shown}
use Rattle.rules.specs.Cases.FrameCases.{differs_at, edges_shown, all_edges, FramesShown}
use Rattle.rules.specs.Cases.MovingCases.{moving_trials}
use Rattle.rules.specs.Cases.WritingCases.{writing_trials}
use Rattle.rules.specs.Cases.ReplyCases.{mode_trials}

pub frames_shown : FramesShown
unfolding text_numbers numbers_of differs row_of shows any_shows all_shown one_row row_shown rows_shown differs_at edges_shown all_edges moving_trials writing_trials mode_trials same
    esc go_to page_of cursor_at protect_at upper_at placed_on lower_at typed columns row_end which_cells others
    starts_from first_in last_in around around_back within filled shift_left shift_right edit_shifted rows_shifted column_filled segment_top
    segment_bottom cursor_of with_cursor with_mode changed stored sending_after gathered_after setup_after power_on blank unsplit_ok split_ok screen_ok is_label slot_ok slot_end slot_most slot_low is_text all_text text_ok texts_ok is_attribute
    attributes_ok feature_place features_ok is_key pending_ok remembered_ok place_ok sending_ok no_stops core_ok setup_ok possible good lookup idle_rule escape_rule judged attribute_contents attribute_of
    feature_rule field_rule split_rule digit_rule decimal_row_rule decimal_column_rule slot_rule text_rule spoilt_rule argument_rule decode_rule unless_guarded
    scrolls next_cell at_top up_cell reverse_plan down_plan tab_cell back_tab_cell address_plan move_plan activate is_segment window_plan storing
    advancing store_plan takes_cell attribute_plan row_edit_plan edit_plan clear_plan setting_plan unless_wide send_plan excluded_plan plan_rule applied landed done begun carried obeyed inner_rule goes_on step_inside step_rule of_step after
frames_shown = record { moving = refl; writing = refl; modes = refl }
