-- The worked texts and replies hold: the definitions are computed.
-- Assumes nothing.
use mathlib.Core.Path.{refl}
use Rattle.counter.specs.Alphabet.{in_alphabet, cost, units, first_outside}
use Rattle.counter.specs.Pieces.{returns, is_mark, onto, cut_at_marks, pieces, piece_of, joined, whole}
use Rattle.rules.specs.Fields.{kept, trimmed}
use Rattle.counter.specs.Parts.{filling, parts}
use Rattle.counter.specs.Count.{capped, sized, text_count, count_rule}
use Rattle.counter.specs.Cases.{Texts, Outside, Replies, Refusals, Worked}

texts : Texts
unfolding text_count sized capped trimmed kept first_outside in_alphabet units cost parts filling onto
texts = record {
  none = refl;
  one = refl;
  most_alone = refl;
  two = refl;
  most_of_two = refl;
  three = refl;
  two_units = refl;
  alphabet = refl;
  eighty = refl;
  eighty_one = refl;
  on_the_seam = refl;
  before_the_seam = refl;
  spaces = refl;
  around = refl;
  no_longer = refl;
}

outside : Outside
unfolding text_count sized capped trimmed kept first_outside in_alphabet units cost parts filling onto
outside = record {
  backquote = refl;
  accented = refl;
  low = refl;
  delete = refl;
  late = refl;
}

replies : Replies
unfolding text_count sized capped trimmed kept first_outside in_alphabet units cost parts filling onto count_rule returns is_mark cut_at_marks pieces piece_of joined whole
replies = record {
  pieces_of = refl;
  lone_return = refl;
  without = refl;
  third = refl;
  zeroth = refl;
  beyond = refl;
  all = refl;
  some = refl;
  one = refl;
  empty = refl;
  none = refl;
  joined_parts = refl;
  place = refl;
  place_in_second = refl;
  not_wanted = refl;
  early_return = refl;
}

refusals : Refusals
unfolding text_count sized capped trimmed kept first_outside in_alphabet units cost parts filling onto count_rule returns is_mark cut_at_marks pieces piece_of joined whole
refusals = record {
  nothing = refl;
  no_return = refl;
  first_zero = refl;
  first_above = refl;
  last_beyond = refl;
  both_beyond = refl;
  last_piece = refl;
}

pub worked : Worked
worked = record { texts = texts; outside = outside; replies = replies; refusals = refusals }
