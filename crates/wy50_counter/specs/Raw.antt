-- A count as the numbers that cross to C.
use Rattle.std.specs.Prelude.{◌≡◌, List, [], ◌∷◌, ◌++◌, ℕ, ◌≤◌, eqb, length, Err}
use Rattle.rules.specs.Cell.{pick}
use Rattle.counter.specs.declared.Refusal.{Refusal}
use Rattle.counter.specs.Words.{words}
use Rattle.counter.specs.Count.{Numbers, numbers, largest, text_count}
use Rattle.counter.specs.Cases.{letters}
use Rattle.wy50_counter.specs.declared.RawCount.{RawCount}

abbrev pub raw : Numbers → RawCount
raw c = record { units = c.units; parts = c.parts; place = c.place; refusal = c.refusal }

-- what the billing job is given: the parts, or the largest 64-bit number
abbrev pub billed : Numbers → ℕ
billed c = pick (eqb c.refusal 0) c.parts largest

-- of a text that fits in memory the largest number is given for a refused byte alone
abbrev pub Unmistaken : Type 0
Unmistaken = (l : List ℕ) → length l ≤ largest → billed (numbers (text_count l)) ≡ largest → (n : ℕ) × (text_count l ≡ Err (Refusal.BadByte n))

-- worked bills: trailing spaces are dropped; FS, US and CR are bytes like any other outside the alphabet
pub record Bills : Type 0 where
  pub none : billed (numbers (text_count [])) ≡ 0
  pub spaces : billed (numbers (text_count (words "  "))) ≡ 0
  pub two : billed (numbers (text_count (letters 161 ++ words " "))) ≡ 2
  pub fs : billed (numbers (text_count (words "a" ++ 0x1c ∷ []))) ≡ 18446744073709551615
  pub us : billed (numbers (text_count (words "a" ++ 0x1f ∷ words "b"))) ≡ 18446744073709551615
  pub cr : billed (numbers (text_count (words "a" ++ 0x0d ∷ []))) ≡ 18446744073709551615
