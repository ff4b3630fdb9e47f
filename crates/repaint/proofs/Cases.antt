-- The worked pages come out so: the definitions are computed.
-- Assumes nothing.
use mathlib.Core.Path.{refl}
use Rattle.rules.specs.Cell.{same}
use Rattle.rules.specs.Row.{columns, row_end}
use Rattle.rules.specs.Search.{which_cells, others, starts_from, first_in, last_in, around, around_back}
use Rattle.rules.specs.Change.{within, filled}
use Rattle.rules.specs.State.{segment_top, segment_bottom, cursor_of, with_cursor, changed, sending_after, gathered_after, setup_after}
use Rattle.rules.specs.Possible.{power_on, unsplit_ok, split_ok, screen_ok, attributes_ok, features_ok, pending_ok, remembered_ok, sending_ok, no_stops, core_ok}
use Rattle.rules.specs.Possible.{setup_ok, possible, good}
use Rattle.rules.specs.Arguments.{is_attribute, attribute_contents, attribute_of, feature_place}
use Rattle.rules.specs.Slot.{all_text as all_text_of, text_ok, texts_ok}
use Rattle.rules.specs.Decode.{lookup, idle_rule, escape_rule, judged, digit_rule, decimal_row_rule, decimal_column_rule, argument_rule, decode_rule}
use Rattle.rules.specs.Plan.{unless_guarded, scrolls, address_plan, move_plan, storing, advancing, store_plan, takes_cell, attribute_plan, send_plan}
use Rattle.rules.specs.Plan.{plan_rule}
use Rattle.rules.specs.Carry.{applied, landed, done, begun, carried}
use Rattle.rules.specs.Step.{obeyed, inner_rule, step_inside, step_rule}
use Rattle.rules.specs.Calls.{joined, repeated, run_rule}
use Rattle.rules.specs.Room.{over}
use Rattle.rules.specs.Fields.{page_width}
use Rattle.repaint.specs.Pass.{pages_width, alike, equal, fits, turned, passed, finished}
use Rattle.repaint.specs.Bytes.{power_on_at, clean, paints}
use Rattle.repaint.specs.Proposal.{lengthened, differing, attribute_code, cell_bytes, cells_bytes, last_shown, start_bytes, stretch_bytes}
use Rattle.repaint.specs.Proposal.{stretches_bytes, is_text, all_text, served, propose_rule}
use Rattle.repaint.specs.Cases.{WorkedProposals, WorkedBytes, shown, reversed, spaces, rows_from, WorkedSpans}
use Rattle.repaint.proofs.Verdicts.{verdict}

pub worked_proposals : WorkedProposals
unfolding remembered_ok over page_width lengthened differing attribute_code cell_bytes cells_bytes last_shown start_bytes stretch_bytes stretches_bytes is_text all_text
    served propose_rule
worked_proposals = record {
  row_end_lem = refl;
  attributes = refl;
  equal_pages = refl;
  few_spans = refl;
  few_bytes = refl;
  last_cell_lem = refl;
  other_attribute = refl;
  protected = refl;
  null = refl;
  delete = refl;
  graphic = refl;
  all_flags = refl;
  wide_pages = refl;
  unlike = refl;
  wrong = refl;
}

pub worked_bytes : WorkedBytes
unfolding same columns row_end which_cells others starts_from first_in last_in around around_back within filled segment_top segment_bottom cursor_of with_cursor changed
    sending_after gathered_after setup_after power_on unsplit_ok split_ok screen_ok attributes_ok features_ok pending_ok remembered_ok sending_ok no_stops core_ok setup_ok
    possible good is_attribute attribute_contents attribute_of feature_place all_text_of text_ok texts_ok lookup idle_rule escape_rule judged digit_rule
    decimal_row_rule decimal_column_rule argument_rule decode_rule unless_guarded scrolls address_plan move_plan storing advancing store_plan takes_cell attribute_plan
    send_plan plan_rule applied landed done begun carried obeyed inner_rule step_inside step_rule joined repeated run_rule power_on_at clean paints
worked_bytes = record {
  taken = refl;
  taken_60 = refl;
  other_personality = refl;
  refused_inside = refl;
  reply_due = refl;
  too_few = refl;
  under_way = refl;
  on_wide = refl;
}

pub worked_spans : WorkedSpans
unfolding rows_from page_width pages_width alike equal fits turned passed finished
worked_spans = record {
  touching = verdict shown reversed _;
  over_row_end = verdict shown reversed _;
  overlapping = verdict shown reversed _;
  out_of_order = verdict shown reversed _;
  uncovered = verdict shown reversed _;
  last_uncovered = verdict shown reversed _;
  no_spans = verdict shown reversed _;
  empty = verdict shown reversed _;
  row_0 = verdict shown reversed _;
  row_25 = verdict shown reversed _;
  column_0 = verdict shown reversed _;
  largest = verdict shown reversed _;
  unlike_lengths = verdict shown (spaces 1919) _;
  wrong_lengths = verdict (spaces 1921) (spaces 1921) _;
}
