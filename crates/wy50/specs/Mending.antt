-- What the exported mending promises: that of the crate `mend`, for the personality that the number names. Another number answers 7.
use Rattle.std.specs.Prelude.{List, ℕ}
use Rattle.rules.specs.Cell.{pick}
use Rattle.mend.specs.Mend.{Outcome, outcome, mend_rule}
use Rattle.wy50.specs.Raw.{is_personality, personality_at}

unfoldable pub raw_mend : ℕ → List ℕ → List ℕ → Outcome
raw_mend v p l = pick (is_personality v) (mend_rule (personality_at v) p l) (outcome 7 0 p l)
