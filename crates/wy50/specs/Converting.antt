-- What the exported conversion promises: that of the rules on the state that the numbers name. Numbers that name no state answer 7.
use Rattle.std.specs.Prelude.{◌≡◌, List, ℕ, eqb}
use Rattle.rules.specs.Cell.{pick}
use Rattle.rules.specs.Convert.{Turned, convert_rule}
use Rattle.wy50.specs.declared.raw.RawState.{RawState}
use Rattle.wy50.specs.declared.raw.RawConvert.{RawConvert}
use Rattle.wy50.specs.Raw.{packed, unpacked, named}

-- the answer, the target page and the state in numbers
pub record RawTurned : Type 0 where
  pub answer : ℕ
  pub target : List ℕ
  pub state : RawState

abbrev pub unturned_by : ℕ → List ℕ → RawState → RawTurned
unturned_by n t x = record { answer = n; target = t; state = x }

-- what is refused gives the numbers back as they came
abbrev pub turned_by : RawState → Turned → RawTurned
turned_by x o = record { answer = o.answer; target = o.target; state = pick (eqb o.answer 0) (packed x o.state) x }

unfoldable pub raw_convert : List ℕ → RawState → List ℕ → RawTurned
raw_convert p x t = pick (named x) (turned_by x (convert_rule p (unpacked x) t)) (unturned_by 7 t x)

-- t is the target after the call
pub record Turns (o : RawTurned) (r : RawConvert) (t : List ℕ) : Type 0 where
  pub answer : r.answer ≡ o.answer
  pub target : t ≡ o.target
  pub state : r.state ≡ o.state
