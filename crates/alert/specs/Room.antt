-- A text that is built in a lent room, byte after byte, and its words and numbers.
use Rattle.std.specs.Prelude.{◌≡◌, ℕ, ◌+◌, ◌/◌, ◌%◌, List, [], ◌∷◌, ◌++◌, length, ◌==◌, nat_le, nat_lt, slice_set}
use Rattle.rules.specs.Cell.{pick}
use Rattle.rules.specs.Send.{digit}
use Rattle.counter.specs.Words.{words}

-- a room and the place of its next byte
pub record Room : Type 0 where
  pub next : ℕ
  pub bytes : List ℕ

abbrev pub up_to : ℕ → List ℕ → Room
up_to n w = record { next = n; bytes = w }

-- one byte more; where the room is full it is left out
abbrev pub put_byte : ℕ → ℕ → List ℕ → Room
put_byte b n w = pick (nat_lt n (length w)) (up_to (n + 1) (slice_set w n b)) (up_to n w)

-- the room after bytes were put into it one after the other
unfoldable pub put : List ℕ → Room → Room
put [] r = r
put (b ∷ l) r = put l (put_byte b r.next r.bytes)

-- from place n of the room w on, the bytes x are put; this leaves the room w' and the next place r
pub record Puts (x : List ℕ) (n : ℕ) (w : List ℕ) (r : ℕ) (w' : List ℕ) : Type 0 where
  pub is : up_to r w' ≡ put x (up_to n w)

-- a digit, but for a zero in front
abbrev pub leading : ℕ → ℕ → List ℕ
leading unit v = pick (nat_le unit v) (digit (v / unit) ∷ []) []

-- a number below 10,000 in decimal
unfoldable pub decimal_of : ℕ → List ℕ
decimal_of v = leading 1000 v ++ leading 100 v ++ leading 10 v ++ (digit v ∷ [])

-- a number of things: the word, with an s unless there is one of them
unfoldable pub count_of : ℕ → List ℕ → List ℕ
count_of n word = decimal_of n ++ words " " ++ word ++ pick (n == 1) [] (words "s")

-- a cell by its row and column, from 1
unfoldable pub place_of : ℕ → ℕ → List ℕ
place_of w at = words "row " ++ decimal_of (at / w + 1) ++ words ", column " ++ decimal_of (at % w + 1)
