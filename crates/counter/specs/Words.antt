-- Texts that stand in quotes, as bytes.
use Rattle.std.specs.Prelude.{ℕ, zero, suc, List, [], ◌∷◌}
use Prim.Native.Char.{code}
use Prim.Native.String.{String, len, char_at}

-- the codes of n characters of a text, from place i on
abbrev pub codes : ℕ → ℕ → String → List ℕ
codes zero i s = []
codes (suc n) i s = code (char_at s i) ∷ codes n (suc i) s

abbrev pub words : String → List ℕ
words s = codes (len s) 0 s
