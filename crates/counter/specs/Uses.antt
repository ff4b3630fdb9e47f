-- Each statement used where a weaker one would not do, and a terminal that is asked.
use Rattle.std.specs.Prelude.{◌≡◌, List, [], ◌∷◌, ◌++◌, ℕ, ◌+◌, ◌≤◌, ◌<◌, length, replicate, Ok}
use Rattle.rules.specs.Fields.{trimmed}
use Rattle.rules.specs.Theorems.Noninterference.{AlikePages}
use Rattle.rules.specs.Cases.Bench.{wy50, wy60}
use Rattle.rules.specs.Cases.Inputs.{page_of, three_letters, cursor_at}
use Rattle.counter.specs.Alphabet.{units}
use Rattle.counter.specs.Parts.{parts, Cutting}
use Rattle.counter.specs.Count.{of_units, capped}
use Rattle.counter.specs.Ask.{asking, ask_rule, Unrevealed}
use Rattle.counter.specs.Cases.{letters, tildes}

-- texts of any length: 2^63 - 1 tildes have all their units told, 2^64 - 2; one more has not
pub record LongTexts : Type 0 where
  pub told : (n : ℕ) → n ≤ 9223372036854775807 → capped (units (trimmed (tildes n))) ≡ n + n
  pub beyond : (n : ℕ) → 9223372036854775807 < n → capped (units (trimmed (tildes n))) ≡ 18446744073709551615
  pub few : (n : ℕ) → n ≤ 18446744073709551615 → parts (trimmed (letters n)) < 18446744073709551615
  pub least : (n : ℕ) (ts : List (List ℕ)) → Cutting (letters n) ts → parts (letters n) ≤ length ts
  pub reached : (n : ℕ) → (ts : List (List ℕ)) × Cutting (letters n) ts × (length ts ≡ parts (letters n))

-- A B in row 1 and C in row 2, where the cursor stands: ESC 4 would reply with C alone
abbrev pub page : List ℕ
page = page_of three_letters

pub record Asking : Type 0 where
  pub reply : (asking page (cursor_at 80) 200).reply ≡ 0x41 ∷ 0x42 ∷ replicate 78 0x20 ++ 0x1f ∷ 0x43 ∷ 0x0d ∷ []
  pub both : ask_rule page (cursor_at 80) 1 2 200 ≡ Ok (of_units 81 1)

-- any pages alike, with protect mode off, of a WY-60, in an impossible state
pub record Labels (p q : List ℕ) : Type 0 where
  pub off : (room : ℕ) → Unrevealed p q wy50 wy50 room
  pub other : (room : ℕ) → Unrevealed p q wy60 wy60 room
  pub impossible : (room : ℕ) → Unrevealed p q (cursor_at 1920) (cursor_at 1920) room

pub record Uses : Type 0 where
  pub texts : LongTexts
  pub asked : Asking
  pub labels : (p q : List ℕ) → AlikePages p q → Labels p q
