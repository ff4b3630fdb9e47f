-- The worked numbers hold: the definitions are computed.
-- Assumes nothing.
use mathlib.Core.Path.{refl}
use Rattle.wy50.specs.Raw.{all_below, blanked, laid_over, find, is_sequence, is_sending, numbers, unpacked, named}
use Rattle.wy50.specs.Cases.{Worked}

pub worked : Worked
unfolding all_below blanked laid_over find is_sequence is_sending numbers unpacked named
worked = record {
  states = record { there = refl; rubbish = refl; back = refl; named = refl };
  parts = record { flags_of = refl; modes_of_lem = refl; sequences_of = refl; pending_of_lem = refl; sends_of = refl; sending_of_lem = refl };
  unnamed = record { flags = refl; bells = refl; personalities = refl; sequences = refl; sends = refl };
  answers = record { saves = refl; number = refl; restores = refl };
}
