-- What the words of a line spell.
use Rattle.std.specs.Prelude.{◌≡◌, ℕ, ◌+◌, ◌-◌, ◌*◌, Bool, true, false, ◌==◌, nat_le, nat_lt, Option, Some, None, option_and_then}
use Rattle.std.specs.Prelude.{List, [], ◌∷◌, length, take, drop, count_by}
use Rattle.std.specs.List.{position_or_len}
use Rattle.rules.specs.Cell.{pick, both, between}
use Rattle.rules.specs.declared.Personality.{Personality}

-- where b first stands, or the length
abbrev pub place : ℕ → List ℕ → ℕ
place b l = position_or_len (λ c. c == b) l

-- the words of a line: the first, those after it, and how many there are
abbrev pub first_word : List ℕ → List ℕ
first_word l = take (place 0x20 l) l

abbrev pub later_words : List ℕ → List ℕ
later_words l = drop (place 0x20 l + 1) l

abbrev pub word_count : List ℕ → ℕ
word_count l = count_by (λ c. c == 0x20) l + 1

-- a number below n, or nothing
abbrev pub below : ℕ → ℕ → Option ℕ
below n x = pick (nat_lt x n) (Some x) None

-- a decimal digit, or 10
abbrev pub decimal_digit : ℕ → ℕ
decimal_digit c = pick (between 0x30 0x39 c) (c - 0x30) 10

unfoldable pub are_digits : List ℕ → Bool
are_digits [] = true
are_digits (c ∷ l) = both (nat_lt (decimal_digit c) 10) (are_digits l)

-- the number that decimal digits make after the number n
unfoldable pub value : ℕ → List ℕ → ℕ
value n [] = n
value n (c ∷ l) = value (n * 10 + decimal_digit c) l

-- the number that a word spells: one digit or more, below 2^60
abbrev pub limit : ℕ
limit = 0x1000_0000_0000_0000

abbrev pub number_of : List ℕ → Option ℕ
number_of w = pick (both (nat_lt 0 (length w)) (both (are_digits w) (nat_lt (value 0 w) limit))) (Some (value 0 w)) None

-- a number up to `most`; a flag, 0 or 1; a personality, 50 or 60
abbrev pub at_most : ℕ → List ℕ → Option ℕ
at_most most w = option_and_then (λ n. pick (nat_le n most) (Some n) None) (number_of w)

abbrev pub flag_of : List ℕ → Option Bool
flag_of w = option_and_then (λ n. pick (n == 0) (Some false) (pick (n == 1) (Some true) None)) (number_of w)

abbrev pub personality_of : List ℕ → Option Personality
personality_of w = option_and_then (λ n. pick (n == 50) (Some Personality.Wy50) (pick (n == 60) (Some Personality.Wy60) None)) (number_of w)

-- a hexadecimal digit in lower case, or 16; the byte that two of them spell, or 256
abbrev pub hex_digit : ℕ → ℕ
hex_digit c = pick (between 0x30 0x39 c) (c - 0x30) (pick (between 0x61 0x66 c) (c - 0x61 + 10) 16)

abbrev pub hex_byte : ℕ → ℕ → ℕ
hex_byte h l = pick (both (nat_lt (hex_digit h) 16) (nat_lt (hex_digit l) 16)) (hex_digit h * 16 + hex_digit l) 256

unfoldable pub byte_of : List ℕ → Option ℕ
byte_of [] = None
byte_of (h ∷ []) = None
byte_of (h ∷ l ∷ []) = below 256 (hex_byte h l)
byte_of (h ∷ l ∷ c ∷ w) = None

-- pairs of hexadecimal digits, and the bytes that they spell
unfoldable pub is_hex : List ℕ → Bool
is_hex [] = true
is_hex (h ∷ []) = false
is_hex (h ∷ l ∷ w) = both (nat_lt (hex_byte h l) 256) (is_hex w)

unfoldable pub hex_bytes : List ℕ → List ℕ
hex_bytes [] = []
hex_bytes (h ∷ []) = []
hex_bytes (h ∷ l ∷ w) = hex_byte h l ∷ hex_bytes w

-- a byte string: `-` when empty
unfoldable pub is_string : List ℕ → Bool
is_string [] = false
is_string (c ∷ []) = c == 0x2d
is_string (h ∷ l ∷ w) = is_hex (h ∷ l ∷ w)

-- the front of a room takes bytes, if they are good and fit: how many there are, or nothing
pub record Put (good : Bool) (bytes : List ℕ) (r : Option ℕ) (old new : List ℕ) : Type 0 where
  pub count : r ≡ pick (both good (nat_le (length bytes) (length old))) (Some (length bytes)) None
  pub front : (n : ℕ) → r ≡ Some n → take n new ≡ bytes
