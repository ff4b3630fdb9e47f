-- The bounds are reached and the uses hold, each by the statement it is of.
-- Assumes nothing.
use Rattle.std.specs.Prelude.{◌≡◌, ℕ, ◌≤◌, true, length}
use mathlib.Core.Path.{refl, sym, ◌∙◌}
use mathlib.Core.Logic.{inr}
use native.Mathlib.Omega.{arith}
use lib.ListN.{length-replicate}
use Rattle.rules.specs.declared.Personality.{Personality}
use Rattle.rules.specs.Cell.{same}
use Rattle.rules.specs.Row.{columns, row_end}
use Rattle.rules.specs.Search.{which_cells, others, starts_from, first_in, last_in, around, around_back}
use Rattle.rules.specs.Change.{within, filled}
use Rattle.rules.specs.State.{segment_top, segment_bottom, cursor_of, with_cursor, changed, sending_after, gathered_after, setup_after}
use Rattle.rules.specs.Possible.{power_on, unsplit_ok, split_ok, screen_ok, attributes_ok, features_ok, pending_ok, remembered_ok, sending_ok, no_stops, core_ok}
use Rattle.rules.specs.Possible.{setup_ok, possible, good}
use Rattle.rules.specs.Arguments.{is_attribute, attribute_contents, attribute_of, feature_place}
use Rattle.rules.specs.Slot.{all_text as all_text_of, text_ok, texts_ok}
use Rattle.rules.specs.Decode.{lookup, idle_rule, escape_rule, judged, digit_rule, decimal_row_rule, decimal_column_rule, argument_rule, decode_rule}
use Rattle.rules.specs.Plan.{unless_guarded, scrolls, address_plan, move_plan, storing, advancing, store_plan, takes_cell, attribute_plan, send_plan}
use Rattle.rules.specs.Plan.{plan_rule}
use Rattle.rules.specs.Carry.{applied, landed, done, begun, carried}
use Rattle.rules.specs.Step.{obeyed, inner_rule, step_inside, step_rule}
use Rattle.rules.specs.Calls.{joined, repeated, run_rule}
use Rattle.rules.specs.Room.{over}
use Rattle.rules.specs.Fields.{page_width}
use Rattle.repaint.specs.Pass.{pages_width, alike, equal, fits, turned, passed, finished}
use Rattle.repaint.specs.Bytes.{power_on_at, clean, paints}
use Rattle.repaint.specs.Proposal.{lengthened, differing, stretches, paint_bytes, attribute_code, cell_bytes, cells_bytes, last_shown, start_bytes}
use Rattle.repaint.specs.Proposal.{stretch_bytes, stretches_bytes, is_text, all_text, served, propose_rule}
use Rattle.repaint.specs.Theorems.{Served}
use Rattle.repaint.specs.Cases.{spaces, shown, nines}
use Rattle.repaint.specs.Uses.{every_second, by_turns, spread, costly, normal_a, reverse_a, Bounds, ProposedAlone, JudgedAlone, PaintedAlone}
use Rattle.repaint.specs.Uses.{Uses}
use Rattle.repaint.proofs.Verdicts.{verdict}
use Rattle.repaint.proofs.Painting.{served_parts}
use Rattle.repaint.proofs.Proposing.{proposing}

spread_served : served Personality.Wy50 shown spread ≡ true
unfolding remembered_ok is_text all_text served every_second
spread_served = refl

costly_served : served Personality.Wy60 shown costly ≡ true
unfolding remembered_ok is_text all_text served by_turns
costly_served = refl

spread_parts : Served Personality.Wy50 shown spread
spread_parts = served_parts Personality.Wy50 shown spread spread_served

costly_parts : Served Personality.Wy60 shown costly
costly_parts = served_parts Personality.Wy60 shown costly costly_served

spans_reached : length (stretches shown spread) ≡ 960
unfolding lengthened differing every_second
spans_reached = refl

bytes_reached : length (paint_bytes shown costly) ≡ 7772
unfolding lengthened differing attribute_code cell_bytes cells_bytes last_shown start_bytes stretch_bytes stretches_bytes by_turns
bytes_reached = refl

-- rooms of just so many
spans_room : 960 ≤ length (nines 960)
spans_room = omega (arith, length-replicate {A = ℕ} 960 9)

bytes_room : 7772 ≤ length (nines 7772)
bytes_room = omega (arith, length-replicate {A = ℕ} 7772 9)

bounds : Bounds
bounds = record {
  spread_served = spread_served;
  costly_served = costly_served;
  spans_reached = spans_reached;
  bytes_reached = bytes_reached;
  spans = λ m b. proposing.spans m shown b;
  bytes = λ m b. proposing.bytes m shown b;
  spread_room = proposing.roomy Personality.Wy50 shown spread (nines 960) (nines 960) (nines 960) (nines 7772) spread_parts spans_room spans_room
      spans_room bytes_room;
  costly_room = proposing.roomy Personality.Wy60 shown costly (nines 960) (nines 960) (nines 960) (nines 7772) costly_parts spans_room spans_room
      spans_room bytes_room;
  spans_accepted = proposing.spans_accepted Personality.Wy50 shown spread spread_served;
  bytes_accepted = proposing.bytes_accepted Personality.Wy60 shown costly costly_served;
  wide = λ m b rows columns lengths out h. proposing.refused m (spaces 3168) b rows columns lengths out (length-replicate {A = ℕ} 3168 0x20 ∙ sym h)
      (inr (length-replicate {A = ℕ} 3168 0x20)) (λ x. omega (arith, x.to, h));
}

proposed_alone : ProposedAlone
unfolding remembered_ok over page_width lengthened differing attribute_code cell_bytes cells_bytes last_shown start_bytes stretch_bytes stretches_bytes
    is_text all_text served propose_rule
proposed_alone = record { reverse = refl; back = refl }

judged_alone : JudgedAlone
unfolding page_width pages_width alike equal fits turned passed finished
judged_alone = record { one = verdict normal_a reverse_a _; none = verdict normal_a reverse_a _ }

painted_alone : PaintedAlone
unfolding same columns row_end which_cells others starts_from first_in last_in around around_back within filled segment_top segment_bottom cursor_of with_cursor
    changed sending_after gathered_after setup_after power_on unsplit_ok split_ok screen_ok attributes_ok features_ok pending_ok remembered_ok sending_ok
    no_stops core_ok setup_ok possible good is_attribute attribute_contents attribute_of feature_place all_text_of text_ok texts_ok lookup idle_rule escape_rule
    judged digit_rule decimal_row_rule decimal_column_rule argument_rule decode_rule unless_guarded scrolls address_plan move_plan storing advancing store_plan
    takes_cell attribute_plan send_plan plan_rule applied landed done begun carried obeyed inner_rule step_inside step_rule joined repeated run_rule
    power_on_at clean paints
painted_alone = record { attribute = refl; letter = refl; nothing = refl }

pub uses : Uses
uses = record { bounds = bounds; proposed = proposed_alone; judged = judged_alone; painted = painted_alone }
