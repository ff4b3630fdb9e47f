-- The statement of specs/Personalities: what request A8 of document 02 claims of the two personalities.
-- Assumes nothing.
use Rattle.rules.specs.Theorems.Personalities.{Personalities}
use Rattle.rules.proofs.Kept.{play_keeps}
use Rattle.rules.proofs.Numbers.{reads_as_before, attribute_flags, normal_50}
use Rattle.rules.proofs.PageNumbers.{play_numbers, powered_numbers}

pub personalities : Personalities
personalities = record {
  kept = λ calls p s. (play_keeps calls p s).personality;
  flags = attribute_flags;
  as_before = reads_as_before;
  numbers = play_numbers;
  from_power_on_lem = powered_numbers;
  wy50_writes = normal_50;
}
