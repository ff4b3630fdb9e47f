-- The worked pages are mended so: the definitions are computed.
-- Assumes nothing.
use mathlib.Core.Path.{refl}
use Rattle.rules.specs.Room.{over}
use Rattle.rules.specs.Possible.{remembered_ok}
use Rattle.rules.specs.Fields.{page_width}
use Rattle.rules.specs.Writable.{is_stored, is_attribute_cell, writable}
use Rattle.mend.specs.Mend.{mended, damaged, entries, mend_rule}
use Rattle.mend.specs.Cases.{Worked}

pub worked : Worked
unfolding over remembered_ok page_width is_stored is_attribute_cell writable mended damaged entries mend_rule
worked = record {
  wy50 = refl;
  wy60 = refl;
  full = refl;
  short = refl;
  no_list = refl;
  twice = refl;
  twice_60 = refl;
  wide = refl;
  shorter = refl;
  longer = refl;
  wider = refl;
  empty = refl;
}
