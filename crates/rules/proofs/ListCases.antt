-- The list after each call, computed.
-- Assumes nothing.
use mathlib.Core.Path.{refl}
use Rattle.rules.specs.Cell.{same}
use Rattle.rules.specs.Row.{columns, row_end}
use Rattle.rules.specs.Search.{which_cells, others, starts_from, first_in, last_in, around, around_back}
use Rattle.rules.specs.Change.{within, filled}
use Rattle.rules.specs.State.{segment_top, segment_bottom, cursor_of, with_cursor, with_mode, changed, sending_after, gathered_after, setup_after}
use Rattle.rules.specs.Possible.{power_on, blank, unsplit_ok, split_ok, screen_ok, attributes_ok, features_ok, pending_ok, remembered_ok, sending_ok}
use Rattle.rules.specs.Possible.{no_stops, core_ok, setup_ok, possible, good}
use Rattle.rules.specs.Arguments.{is_attribute, feature_place}
use Rattle.rules.specs.Slot.{is_text, all_text, text_ok, texts_ok}
use Rattle.rules.specs.Decode.{lookup, idle_rule, escape_rule, judged, argument_rule, decode_rule}
use Rattle.rules.specs.Plan.{unless_guarded, scrolls, next_cell, address_plan, move_plan, storing, advancing, store_plan, takes_cell, setting_plan}
use Rattle.rules.specs.Plan.{plan_rule}
use Rattle.rules.specs.Carry.{applied, landed, done, begun, carried}
use Rattle.rules.specs.Step.{obeyed, inner_rule, step_inside, step_rule}
use Rattle.rules.specs.Calls.{joined, repeated, run_rule, of_step, of_run}
use Rattle.rules.specs.Cases.Inputs.{esc, go_to, labelled}
use Rattle.rules.specs.RowList.{first_column, row_numbers}
use Rattle.rules.specs.RowCalls.{step_rows_rule, run_rows_rule, rows_after, row_call_rule, row_after, row_play}
use Rattle.rules.specs.Cases.RowCases.{rows_with, open_rows}
use Rattle.rules.specs.Cases.ListCases.{EachList}

pub each_list : EachList
unfolding go_to esc labelled same columns row_end which_cells others starts_from first_in last_in around around_back within filled segment_top segment_bottom
    cursor_of with_cursor with_mode changed sending_after gathered_after setup_after power_on blank unsplit_ok split_ok screen_ok is_attribute attributes_ok
    feature_place features_ok pending_ok remembered_ok sending_ok no_stops core_ok setup_ok possible good is_text all_text text_ok texts_ok lookup idle_rule
    escape_rule judged argument_rule decode_rule unless_guarded scrolls next_cell address_plan move_plan storing advancing store_plan takes_cell setting_plan
    plan_rule applied landed done begun carried obeyed inner_rule step_inside step_rule joined repeated run_rule of_step of_run first_column row_numbers
    step_rows_rule run_rows_rule rows_after row_call_rule row_after row_play rows_with open_rows
each_list = refl
