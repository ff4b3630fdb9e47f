-- The worked cases of fields hold.
use mathlib.Core.Path.{refl}
use Rattle.rules.specs.Row.{row_end}
use Rattle.rules.specs.Search.{which_cells, first_in}
use Rattle.rules.specs.Fields.{page_width, starts_at, next_field_rule, kept, trimmed, text_of, fitting, field_text_rule, row_text_rule, position_rule}
use Rattle.rules.specs.Fields.{cell_rule}
use Rattle.rules.specs.Possible.{blank}
use Rattle.rules.specs.Cases.Inputs.{page_of}
use Rattle.rules.specs.Cases.FieldCases.{filled_form, wide_form, FieldCases}

pub field_cases : FieldCases
unfolding row_end which_cells first_in page_width starts_at next_field_rule kept trimmed text_of fitting field_text_rule row_text_rule position_rule cell_rule blank page_of filled_form wide_form
field_cases = record {
  first = refl;
  at = refl;
  behind = refl;
  next_row = refl;
  cut = refl;
  row = refl;
  last = refl;
  none = refl;
  past = refl;
  labels = refl;
  wide = refl;
  wide_row = refl;
  wide_last = refl;
  short = refl;
  long = refl;
  text = refl;
  no_room = refl;
  trimmed = refl;
  untrimmed = refl;
  untrimmed_no_room = refl;
  inner_space = refl;
  spaces = refl;
  label = refl;
  inside = refl;
  past_page = refl;
  no_page = refl;
  row_text = refl;
  row_no_room = refl;
  row_untrimmed = refl;
  wide_row_text = refl;
  no_row = refl;
  row_no_page = refl;
  position_is = refl;
  last_position = refl;
  no_position = refl;
  wide_position = refl;
  position_no_page = refl;
  cell_is = refl;
  no_column = refl;
  no_such_row = refl;
  wide_cell = refl;
  cell_no_page = refl;
}
