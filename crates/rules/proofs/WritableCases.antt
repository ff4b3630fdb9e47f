-- The worked numbers are judged so: the definition is computed.
use mathlib.Core.Path.{refl}
use Rattle.rules.specs.Possible.{remembered_ok}
use Rattle.rules.specs.Writable.{is_stored, is_attribute_cell, writable}
use Rattle.rules.specs.Cases.WritableCases.{all_of, none_of, WritableCases}

pub writable_cases : WritableCases
unfolding remembered_ok is_stored is_attribute_cell writable all_of none_of
writable_cases = record {
  text_50 = refl;
  text_60 = refl;
  attribute_50 = refl;
  attribute_60 = refl;
  flagged_60 = refl;
  flagged_50 = refl;
  no_text_50 = refl;
  no_text_60 = refl;
  no_attribute_50 = refl;
  no_attribute_60 = refl;
  no_graphic_50 = refl;
  no_graphic_60 = refl;
  no_kind_50 = refl;
  no_kind_60 = refl;
  no_flags_60 = refl;
}
