-- Which bytes a sequence takes, tried with all bytes. The bytes are worked by the rule of a byte on a good page, over no cells: none of these
-- answers depends on a cell.
use Rattle.std.specs.Prelude.{Bool, true, List, [], ◌∷◌, ◌++◌, ℕ, zero, suc, eqb}
use Rattle.rules.specs.declared.State.{State}
use Rattle.rules.specs.Cell.{pick, both}
use Rattle.rules.specs.Calls.{Given}
use Rattle.rules.specs.Theorems.Noninterference.{any_of}
use Rattle.rules.specs.Cases.Bench.{wy50}
use Rattle.rules.specs.Cases.WritingCases.{writing_bytes}
use Rattle.rules.specs.Cases.Inputs.{esc, halves, lower, typed}

-- n numbers from `first` on
unfoldable pub span : ℕ → ℕ → List ℕ
span first zero = []
span first (suc n) = first ∷ span (suc first) n

unfoldable pub last_answer : ℕ → List Given → ℕ
last_answer n [] = n
last_answer n (g ∷ gs) = last_answer g.answer gs

-- from power-on the bytes `before`, then each of `tried` with the bytes `behind`: the last answer is 0 for those in `taken`, n for all others
pub data ByteCase : Type 0 where
  takes : (before tried behind : List ℕ) (n : ℕ) (taken : List ℕ) → ByteCase

unfoldable pub tried_hold : List ℕ → List ℕ → ℕ → List ℕ → State → Bool
tried_hold [] behind n taken s = true
tried_hold (b ∷ bs) behind n taken s =
    both (eqb (last_answer 9 (typed (b ∷ behind) [] s).given) (pick (any_of taken b) 0 n)) (tried_hold bs behind n taken s)

unfoldable pub bytes_hold : List ByteCase → Bool
bytes_hold [] = true
bytes_hold (takes before tried behind n taken ∷ cs) = both (tried_hold tried behind n taken (typed before [] wy50).state) (bytes_hold cs)

-- every byte below 80h, and every byte above
unfoldable pub low : List ℕ
low = span 0 128

unfoldable pub high : List ℕ
high = span 128 128

unfoldable pub digit_bytes : List ℕ
digit_bytes = span 0x30 10

-- attr of ESC G: 20h, 30h to 3Fh or 70h to 7Eh
unfoldable pub attribute_bytes : List ℕ
attribute_bytes = 0x20 ∷ span 0x30 16 ++ span 0x70 15

-- the 58 bytes that may follow ESC: SPACE ! " # & ' ( ) * + , - . / 0 1 2 4 5 6 7 : ; = ? A E F G H I J K M N O Q R T V W Y ] ` a b i j k l q r t x
-- y z { }
unfoldable pub escape_bytes : List ℕ
escape_bytes =
    writing_bytes ++ 0x20 ∷ 0x22 ∷ 0x23 ∷ [] ++ span 0x26 4 ++ 0x2d ∷ 0x2f ∷ [] ++ span 0x30 3 ++ span 0x34 4 ++ 0x3d ∷ 0x3f ∷ 0x41 ∷ 0x46 ∷ []
    ++ span 0x49 3
    ++ span 0x4d 3 ++ 0x5d ∷ [] ++ span 0x60 3 ++ span 0x69 4 ++ 0x78 ∷ 0x7a ∷ 0x7b ∷ 0x7d ∷ []

-- no sequence and after ESC: below 80h, and 1 for all above
unfoldable pub first_bytes : List ByteCase
first_bytes =
    takes [] low [] 1 low
    ∷ takes [] high [] 1 []
    ∷ takes (0x1b ∷ []) high [] 1 []
    -- after ESC, split (ESC } answers 3 unsplit)
    ∷ takes (halves ++ 0x1b ∷ []) low [] 2 escape_bytes
    ∷ []

-- arguments of one byte
unfoldable pub argument_bytes : List ByteCase
argument_bytes =
    -- ESC G, ESC H, ESC !, ESC .
    takes (esc 0x47) low [] 3 attribute_bytes
    ∷ takes (esc 0x48) low [] 3 (span 0x30 16)
    ∷ takes (esc 0x21) low [] 3 attribute_bytes
    ∷ takes (esc 0x2e) low [] 3 (0 ∷ span 0x20 95)
    -- ESC ` f: all of 30h to 41h
    ∷ takes (esc 0x60) low [] 3 (span 0x30 18)
    -- ESC A n attr
    ∷ takes (esc 0x41) low (0x30 ∷ []) 3 (span 0x30 4)
    ∷ takes (esc 0x41 ++ 0x33 ∷ []) low [] 3 attribute_bytes
    -- ESC z: keys, the fields of labels, DEL
    ∷ takes (esc 0x7a) low [] 3 (span 0x30 8 ++ span 0x40 24 ++ span 0x60 16 ++ 0x7f ∷ [])
    -- the bytes of a text, judged by its CR: 20h to 7Eh, and CR itself, after which CR is a move; DEL ends no label
    ∷ takes (esc 0x46) low (0x0d ∷ []) 3 (0x0d ∷ span 0x20 95)
    ∷ takes (esc 0x7a ++ 0x30 ∷ []) low (0x0d ∷ []) 3 (0x0d ∷ span 0x20 95)
    ∷ takes (esc 0x7a ++ 0x57 ∷ []) low (0x0d ∷ []) 3 (0x0d ∷ span 0x20 95)
    -- a key takes all below DEL, CR too; DEL after DEL does nothing
    ∷ takes (esc 0x7a ++ 0x40 ∷ []) low (0x7f ∷ []) 3 low
    -- 80h and above inside a text
    ∷ takes (esc 0x46) high [] 1 []
    ∷ takes (esc 0x46 ++ 0x00 ∷ []) high [] 1 []
    ∷ takes (esc 0x7a ++ 0x50 ∷ []) high [] 1 []
    -- ESC x; ESC x 1 r: rows 2 to 24
    ∷ takes (esc 0x78) low [] 3 (0x30 ∷ 0x31 ∷ [])
    ∷ takes (esc 0x78 ++ 0x31 ∷ []) low [] 3 (span 0x21 23)
    ∷ []

-- addresses
unfoldable pub address_bytes : List ByteCase
address_bytes =
    -- ESC = r c, unsplit and in each segment
    takes (esc 0x3d) low (0x20 ∷ []) 3 (span 0x20 24)
    ∷ takes (esc 0x3d ++ 0x20 ∷ []) low [] 3 (span 0x20 80)
    ∷ takes (halves ++ esc 0x3d) low (0x20 ∷ []) 3 (span 0x20 12)
    ∷ takes (lower ++ esc 0x3d) low (0x20 ∷ []) 3 (span 0x20 12)
    -- ESC - n r c, split and unsplit
    ∷ takes (halves ++ esc 0x2d) low (0x20 ∷ 0x20 ∷ []) 3 (0x30 ∷ 0x31 ∷ [])
    ∷ takes (esc 0x2d) low (0x20 ∷ 0x20 ∷ []) 3 (0x30 ∷ [])
    ∷ takes (halves ++ esc 0x2d ++ 0x31 ∷ []) low (0x20 ∷ []) 3 (span 0x20 12)
    ∷ takes (halves ++ esc 0x2d ++ 0x31 ∷ 0x20 ∷ []) low [] 3 (span 0x20 80)
    ∷ []

-- the grammar of ESC a
unfoldable pub decimal_bytes : List ByteCase
decimal_bytes =
    takes (esc 0x61) low [] 3 digit_bytes
    ∷ takes (esc 0x61 ++ 0x31 ∷ []) low [] 3 (0x52 ∷ digit_bytes)
    ∷ takes (esc 0x61 ++ 0x31 ∷ 0x32 ∷ []) low [] 3 (0x52 ∷ [])
    ∷ takes (esc 0x61 ++ 0x31 ∷ 0x52 ∷ []) low [] 3 digit_bytes
    ∷ takes (esc 0x61 ++ 0x31 ∷ 0x52 ∷ 0x31 ∷ []) low [] 3 (0x43 ∷ digit_bytes)
    ∷ takes (esc 0x61 ++ 0x31 ∷ 0x52 ∷ 0x30 ∷ 0x31 ∷ []) low [] 3 (0x43 ∷ digit_bytes)
    ∷ takes (esc 0x61 ++ 0x31 ∷ 0x52 ∷ 0x30 ∷ 0x30 ∷ 0x31 ∷ []) low [] 3 (0x43 ∷ [])
    ∷ []
