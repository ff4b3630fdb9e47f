-- The uses hold, each by the statement it is of.
-- Assumes nothing.
use mathlib.Core.Path.{refl}
use mathlib.Core.Logic.{inl, inr}
use native.Mathlib.Omega.{arith}
use Rattle.rules.specs.Search.{which_cells, first_in}
use Rattle.rules.specs.Fields.{page_width, starts_at, next_field_rule}
use Rattle.fields.specs.Theorems.{RoundTrip}
use Rattle.fields.specs.Uses.{NoFields, OfWidth, Uses}
use Rattle.fields.proofs.Fields.{fields_are_stretches, cells_are_in_fields, places_go_round}
use Rattle.fields.proofs.Pieces.{pieces_are_fields}

none : NoFields
unfolding page_width which_cells first_in starts_at next_field_rule
none = record { labels = refl; behind = refl; no_page = refl }

-- places at a width, by the page's length
narrow_places : RoundTrip 1920 80
unfolding page_width
narrow_places = places_go_round 1920 (λ e. omega (arith, e))

wide_places : RoundTrip 3168 132
unfolding page_width
wide_places = places_go_round 3168 (λ e. omega (arith, e))

narrow : OfWidth 80 1920
narrow = record {
  stretch = λ p h. fields_are_stretches 80 p (inl refl) h;
  in_field = λ p h i m. cells_are_in_fields 80 p (inl refl) h i (omega (arith, h));
  cell = narrow_places.cell;
  place = narrow_places.place;
  pieces = λ p h. pieces_are_fields 80 p (inl refl) h 0 1920 (omega arith) (omega (arith, h)) refl refl;
}

wide : OfWidth 132 3168
wide = record {
  stretch = λ p h. fields_are_stretches 132 p (inr refl) h;
  in_field = λ p h i m. cells_are_in_fields 132 p (inr refl) h i (omega (arith, h));
  cell = wide_places.cell;
  place = wide_places.place;
  pieces = λ p h. pieces_are_fields 132 p (inr refl) h 0 3168 (omega arith) (omega (arith, h)) refl refl;
}

pub uses : Uses
uses = record { none = none; narrow = narrow; wide = wide }
