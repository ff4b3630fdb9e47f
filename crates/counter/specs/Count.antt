-- What the counter answers.
use Rattle.std.specs.Prelude.{◌≡◌, Bool, List, ℕ, ◌≤◌, ◌<◌, leb, ltb, length, Result, Ok, Err}
use Rattle.rules.specs.Fields.{trimmed}
use Rattle.rules.specs.Cell.{pick, both}
use Rattle.counter.specs.declared.Size.{Size}
use Rattle.counter.specs.declared.Refusal.{Refusal}
use Rattle.counter.specs.Alphabet.{units, first_outside}
use Rattle.counter.specs.Pieces.{returns, pieces, whole}
use Rattle.counter.specs.Parts.{parts}

-- what a text comes to, or what refuses it
abbrev pub Counted : Type 0
Counted = Result Size Refusal

-- units and parts
abbrev pub of_units : ℕ → ℕ → Counted
of_units u n = Ok (record { units = u; parts = n })

-- a count in numbers: what refuses it, in request A3's order, and 0 where nothing does; its units and parts; the place of a refused byte. What does
-- not apply is 0
pub record Numbers : Type 0 where
  pub refusal : ℕ
  pub units : ℕ
  pub parts : ℕ
  pub place : ℕ

abbrev pub numbers : Counted → Numbers
numbers (Ok c) = record { refusal = 0; units = c.units; parts = c.parts; place = 0 }
numbers (Err Refusal.NoReturn) = record { refusal = 1; units = 0; parts = 0; place = 0 }
numbers (Err Refusal.BadFirst) = record { refusal = 2; units = 0; parts = 0; place = 0 }
numbers (Err Refusal.BadLast) = record { refusal = 3; units = 0; parts = 0; place = 0 }
numbers (Err (Refusal.BadByte n)) = record { refusal = 4; units = 0; parts = 0; place = n }

-- units are told up to the largest 64-bit number
abbrev pub largest : ℕ
largest = 18446744073709551615

unfoldable pub capped : ℕ → ℕ
capped n = pick (leb n largest) n largest

-- the first byte outside the alphabet refuses a text, with its place; else its units and parts
unfoldable pub sized : List ℕ → Counted
sized l = pick (ltb (first_outside l) (length l)) (Err (Refusal.BadByte (first_outside l))) (of_units (capped (units l)) (parts l))

-- of a text: its trailing spaces are dropped, which moves no place
unfoldable pub text_count : List ℕ → Counted
text_count l = sized (trimmed l)

-- a first number of 1 or more, and not above the last
abbrev pub in_order : ℕ → ℕ → Bool
in_order first last = both (leb 1 first) (leb first last)

-- of a reply: the refusals in this order
unfoldable pub count_rule : List ℕ → ℕ → ℕ → Counted
count_rule r first last =
    pick (returns r)
    (pick (in_order first last)
    (pick (leb last (length (pieces r))) (text_count (whole r first last)) (Err Refusal.BadLast))
    (Err Refusal.BadFirst))
    (Err Refusal.NoReturn)

-- a text of up to 2^63 - 1 bytes has all its units told: nothing in memory is longer
abbrev pub Exact : Type 0
Exact = (l : List ℕ) → length l ≤ 9223372036854775807 → capped (units (trimmed l)) ≡ units (trimmed l)

-- a text that fits in memory never has the largest number of parts
abbrev pub FewParts : Type 0
FewParts = (l : List ℕ) → length l ≤ largest → parts (trimmed l) < largest

-- the numbers say which count it is
abbrev pub OneCount : Type 0
OneCount = (c d : Counted) → numbers c ≡ numbers d → c ≡ d
