-- One cell's number (document 01, "The page and the state", amended by request A8 of document 02: its kind, and its attribute).
use Rattle.std.specs.Prelude.{ℕ, ◌+◌, ◌*◌, ◌/◌, ◌%◌, Bool, true, false, not, List, [], ◌∷◌, leb, ltb, eqb}
use Rattle.rules.specs.declared.Contents.{Contents}
use Rattle.rules.specs.declared.Contents.TheVariants as Contents

-- a choice by a test
abbrev pub pick : {A : Type 0} → Bool → A → A → A
pick true a b = a
pick false a b = b

abbrev pub both : Bool → Bool → Bool
both a b = pick a b false

abbrev pub either : Bool → Bool → Bool
either a b = pick a true b

-- a number from `first` to `last`
abbrev pub between : ℕ → ℕ → ℕ → Bool
between first last v = both (leb first v) (ltb v (last + 1))

-- one of the n numbers from `first` on, as an address counts rows and columns
abbrev pub among : ℕ → ℕ → ℕ → Bool
among first n v = both (leb first v) (ltb v (first + n))

-- two lists of numbers are equal
unfoldable pub same : List ℕ → List ℕ → Bool
same [] [] = true
same [] (y ∷ l) = false
same (x ∷ k) [] = false
same (x ∷ k) (y ∷ l) = both (eqb x y) (same k l)

abbrev pub code : ℕ → ℕ
code v = v % 128

-- the 128s bit
abbrev pub protected : ℕ → Bool
protected v = eqb (v / 128 % 2) 1

-- 0 text, 1 attribute, 2 graphic, and 3 reads as graphic
abbrev pub kind : ℕ → ℕ
kind v = pick (ltb (v / 256 % 4) 2) (v / 256 % 4) 2

-- the five attribute flags, and the attribute that they make: dim 16, underscore 8, reverse 4, blink 2, blank 1. The bit worth 32768 is read by
-- nobody
abbrev pub is_dim : ℕ → Bool
is_dim v = eqb (v / 16384 % 2) 1

abbrev pub is_underscore : ℕ → Bool
is_underscore v = eqb (v / 8192 % 2) 1

abbrev pub is_reverse : ℕ → Bool
is_reverse v = eqb (v / 4096 % 2) 1

abbrev pub is_blink : ℕ → Bool
is_blink v = eqb (v / 2048 % 2) 1

abbrev pub is_blank : ℕ → Bool
is_blank v = eqb (v / 1024 % 2) 1

abbrev pub attribute : ℕ → ℕ
attribute v = v / 1024 % 32

abbrev pub normal : ℕ
normal = 0

-- the number of a written cell: its code, whether it is protected, its kind and its attribute
abbrev pub cell : ℕ → Bool → ℕ → ℕ → ℕ
cell c p k a = c + pick p 128 0 + 256 * k + 1024 * a

-- "contents": a cell's code and kind; a is its attribute
abbrev pub written : Contents → Bool → ℕ → ℕ
written (Contents.Text c) p a = cell c p 0 a
written (Contents.Attribute c) p a = cell c p 1 a
written (Contents.Graphic c) p a = cell c p 2 a

-- unprotected and normal: a null, and the space that clearing, inserting, deleting and scrolling bring in; and the protected space of ESC V
-- and ESC ,
abbrev pub null : ℕ
null = written (Contents.Text 0) false normal

abbrev pub space : ℕ
space = written (Contents.Text 0x20) false normal

abbrev pub protected_space : ℕ
protected_space = written (Contents.Text 0x20) true normal

-- "guarded": protect mode is on and the cell is protected
abbrev pub guarded : Bool → ℕ → Bool
guarded true v = protected v
guarded false v = false

-- "open": not guarded
abbrev pub is_open : Bool → ℕ → Bool
is_open on v = not (guarded on v)

-- what a send gives for a cell: a text cell with code 20h to 7Eh goes as its code, any other as 20h
abbrev pub sent : ℕ → ℕ
sent v = pick (eqb (kind v) 0) (pick (leb 0x20 (code v)) (pick (leb (code v) 0x7e) (code v) 0x20) 0x20) 0x20
