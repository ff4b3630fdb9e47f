-- The uses hold, each by the statement it is of.
-- Assumes nothing.
use mathlib.Core.Path.{◌≡◌, refl, ap, ◌∙◌}
use mathlib.Core.List.{List}
use Prim.Native.Nat.{ℕ, zero, suc, ◌+◌, ◌<◌}
use native.Mathlib.Omega.{arith}
use lib.ListN.{replicate, length-replicate}
use borrow.Author.Tests.{lt-leb}
use Rattle.rules.specs.declared.State.{State}
use Rattle.rules.specs.Cell.{pick}
use Rattle.rules.specs.Row.{columns, row_end}
use Rattle.rules.specs.Search.{which_cells, others, starts_from, first_in, last_in, around, around_back}
use Rattle.rules.specs.State.{segment_top, segment_bottom, cursor_of, with_cursor, changed, sending_after, gathered_after, setup_after}
use Rattle.rules.specs.Possible.{power_on, blank, unsplit_ok, split_ok, screen_ok, attributes_ok, features_ok, pending_ok, remembered_ok, place_ok, sending_ok}
use Rattle.rules.specs.Possible.{no_stops, core_ok, setup_ok, possible, good}
use Rattle.rules.specs.Arguments.{is_attribute, feature_place}
use Rattle.rules.specs.Slot.{is_text, all_text, text_ok, texts_ok}
use Rattle.rules.specs.Decode.{lookup, idle_rule, escape_rule, decode_rule}
use Rattle.rules.specs.Plan.{send_plan, plan_rule}
use Rattle.rules.specs.Send.{open_cell, each, cell_place, text_places, follows_left_out, text_at, places, bytes_of, beyond, standing, sent_from, left_from}
use Rattle.rules.specs.Carry.{applied, landed, done, begun, carried}
use Rattle.rules.specs.Step.{obeyed, inner_rule, goes_on, step_inside, step_rule}
use Rattle.rules.specs.Calls.{joined, repeated, behind, run_inside, run_rule}
use Rattle.rules.specs.Fields.{kept, trimmed}
use Rattle.rules.specs.Theorems.Noninterference.{AlikePages}
use Rattle.rules.specs.Cases.Inputs.{page_of, three_letters, cursor_at}
use Rattle.counter.specs.Alphabet.{in_alphabet, cost, units, first_outside}
use Rattle.counter.specs.Pieces.{returns, is_mark, onto, cut_at_marks, pieces, whole}
use Rattle.counter.specs.Pieces as Pieces
use Rattle.counter.specs.Parts.{filling, parts}
use Rattle.counter.specs.Count.{largest, capped, sized, text_count, count_rule}
use Rattle.counter.specs.Ask.{is_ready, question, asking, is_cut, told_rule, ask_rule, Unrevealed}
use Rattle.counter.specs.Cases.{tildes}
use Rattle.counter.specs.Uses.{LongTexts, Asking, Labels, Uses}
use Rattle.counter.proofs.Fewest.{fewest}
use Rattle.counter.proofs.Sizes.{exact, few_parts}
use Rattle.counter.proofs.Alike.{labels_uncounted}

-- tildes have no trailing space, and two units each
tildes_kept : (n : ℕ) → trimmed (tildes n) ≡ tildes n
unfolding trimmed kept
tildes_kept zero = refl
tildes_kept (suc zero) = refl
tildes_kept (suc (suc n)) = ap (kept 0x7e) (tildes_kept (suc n))

tildes_units : (n : ℕ) → units (tildes n) ≡ n + n
unfolding units cost
tildes_units zero = refl
tildes_units (suc n) = omega (arith, tildes_units n)

tildes_size : (n : ℕ) → units (trimmed (tildes n)) ≡ n + n
tildes_size n = ap units (tildes_kept n) ∙ tildes_units n

capped_large : (n : ℕ) → largest < n → capped n ≡ largest
unfolding capped
capped_large n h = ap (λ t. pick t n largest) (lt-leb n largest h)

long_texts : LongTexts
long_texts = record {
  told = λ n h. exact (tildes n) (omega (arith, length-replicate {A = ℕ} n 0x7e)) ∙ tildes_size n;
  beyond = λ n h. capped_large (units (trimmed (tildes n))) (omega (arith, tildes_size n));
  few = λ n h. few_parts (replicate n 0x61) (omega (arith, length-replicate {A = ℕ} n 0x61));
  least = λ n. (fewest (replicate n 0x61)).0;
  reached = λ n. (fewest (replicate n 0x61)).1;
}

unrevealed : (p q : List ℕ) (s : State) → AlikePages p q → (room : ℕ) → Unrevealed p q s s room
unrevealed p q s h room = labels_uncounted p q s s room (record { state = refl; pages = h })

labels : (p q : List ℕ) → AlikePages p q → Labels p q
labels p q h = record { off = unrevealed p q _ h; other = unrevealed p q _ h; impossible = unrevealed p q _ h }

asked : Asking
unfolding columns row_end which_cells others starts_from first_in last_in around around_back segment_top segment_bottom cursor_of with_cursor changed
    sending_after gathered_after setup_after power_on blank unsplit_ok split_ok screen_ok attributes_ok features_ok pending_ok remembered_ok place_ok sending_ok
    no_stops core_ok setup_ok possible good is_attribute feature_place is_text all_text text_ok texts_ok lookup idle_rule escape_rule decode_rule send_plan
    plan_rule open_cell each cell_place text_places follows_left_out text_at places bytes_of beyond standing sent_from left_from applied landed done begun
    carried obeyed inner_rule goes_on step_inside step_rule joined repeated behind run_inside run_rule page_of three_letters cursor_at is_ready question
    asking is_cut told_rule ask_rule returns is_mark onto cut_at_marks pieces whole Pieces.joined kept trimmed in_alphabet cost units first_outside filling
    parts capped sized text_count count_rule
asked = record { reply = refl; both = refl }

pub uses : Uses
uses = record { texts = long_texts; asked = asked; labels = labels }
