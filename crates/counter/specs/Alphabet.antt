-- The alphabet that a text is counted in: the GSM 7-bit alphabet of 3GPP TS 23.038, as far as bytes 20h to 7Eh reach it (document 02, A3).
use Rattle.std.specs.Prelude.{Bool, not, List, [], ◌∷◌, ℕ, suc, ◌+◌, eqb}
use Rattle.rules.specs.Cell.{pick, both, between}
use Rattle.rules.specs.Theorems.Noninterference.{any_of}
use Rattle.counter.specs.Words.{words}

abbrev pub space : ℕ
space = 0x20

abbrev pub backquote : ℕ
backquote = 0x60

-- 20h to 7Eh but the backquote
unfoldable pub in_alphabet : ℕ → Bool
in_alphabet b = both (between 0x20 0x7e b) (not (eqb b backquote))

-- the characters that cost two units; every other costs one
abbrev pub two_unit_characters : List ℕ
two_unit_characters = words "^{}\\[~]|"

unfoldable pub cost : ℕ → ℕ
cost b = pick (any_of two_unit_characters b) 2 1

-- the units of a text
unfoldable pub units : List ℕ → ℕ
units [] = 0
units (b ∷ l) = cost b + units l

-- the place of the first byte outside the alphabet, from 0; where there is none, the text's length
unfoldable pub first_outside : List ℕ → ℕ
first_outside [] = 0
first_outside (b ∷ l) = pick (in_alphabet b) (suc (first_outside l)) 0
