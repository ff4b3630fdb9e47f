-- Which bytes the arguments of commands may be.
use Rattle.std.specs.Prelude.{ℕ, ◌+◌, ◌%◌, Bool, eqb, ltb}
use Rattle.rules.specs.declared.Contents.{Contents}
use Rattle.rules.specs.declared.Contents.TheVariants as Contents
use Rattle.rules.specs.Cell.{pick, either, between}

-- a code of flags: 30h to 3Fh or 70h to 7Eh
abbrev pub is_flags : ℕ → Bool
is_flags a = either (between 0x30 0x3f a) (between 0x70 0x7e a)

-- attr of ESC G, ESC ! and ESC A: 20h or a code of flags
unfoldable pub is_attribute : ℕ → Bool
is_attribute a = either (eqb a 0x20) (is_flags a)

-- what a cell of it holds: attr 20h is a text space
unfoldable pub attribute_contents : ℕ → Contents
attribute_contents a = pick (eqb a 0x20) (Contents.Text a) (Contents.Attribute a)

-- the attribute of a code of 30h to 3Fh or 70h to 7Eh (document 02, A8): its low four bits are underscore 8, reverse 4, blink 2 and blank 1, and
-- 70h to 7Eh add dim, 16
unfoldable pub attribute_of : ℕ → ℕ
attribute_of a = a % 16 + pick (ltb a 0x70) 0 16

-- which feature a code of ESC ` sets: 0 and 1 whether the cursor is shown, 2 to 5 its style, 6 7 A the protected look, 8 and 9 whether the
-- screen is shown, 3Ch to 40h scrolling. Five for any other code
unfoldable pub feature_place : ℕ → ℕ
feature_place f =
    pick (between 0x30 0x31 f) 0 (pick (between 0x32 0x35 f) 1 (pick (either (between 0x36 0x37 f) (eqb f 0x41)) 2
    (pick (between 0x38 0x39 f) 3 (pick (between 0x3c 0x40 f) 4 5))))

-- value of ESC z: a key is 40h to 4Fh or 60h to 6Fh, a label 30h to 37h or 50h to 57h (document 02, A1)
unfoldable pub is_key : ℕ → Bool
is_key v = either (between 0x40 0x4f v) (between 0x60 0x6f v)

unfoldable pub is_label : ℕ → Bool
is_label v = either (between 0x30 0x37 v) (between 0x50 0x57 v)
