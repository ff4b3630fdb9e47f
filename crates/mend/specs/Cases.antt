-- Worked pages, by the sentences of request A13 of document 02.
use Rattle.std.specs.Prelude.{◌≡◌, List, [], ◌∷◌, ◌++◌, ℕ, replicate}
use Rattle.rules.specs.declared.Personality.TheVariants as Personality
use Rattle.mend.specs.Mend.{mend_rule, outcome}

-- row 1: A, a protected null, 7Fh, a protected attribute cell, a blank A, a protected A; row 2: an A of kind 3; a last cell of all bits
abbrev pub page : List ℕ
page = 0x41 ∷ 0x80 ∷ 0x7f ∷ 0x1b0 ∷ 0x441 ∷ 0xc1 ∷ replicate 74 0 ++ 0x341 ∷ replicate 1838 0x20 ++ 0xffff ∷ []

-- what WY-50 and WY-60 could have written of it
abbrev pub mended50 : List ℕ
mended50 = 0x41 ∷ 0 ∷ 0 ∷ 0x1b0 ∷ 0 ∷ 0xc1 ∷ replicate 74 0 ++ 0 ∷ replicate 1838 0x20 ++ 0 ∷ []

abbrev pub mended60 : List ℕ
mended60 = 0x41 ∷ 0 ∷ 0 ∷ 0 ∷ 0x441 ∷ 0xc1 ∷ replicate 74 0 ++ 0 ∷ replicate 1838 0x20 ++ 0 ∷ []

abbrev pub listed50 : List ℕ
listed50 = 1 ∷ 2 ∷ 0x80 ∷ 0 ∷ 1 ∷ 3 ∷ 0x7f ∷ 0 ∷ 1 ∷ 5 ∷ 0x441 ∷ 0 ∷ 2 ∷ 1 ∷ 0x341 ∷ 0 ∷ 24 ∷ 80 ∷ 0xffff ∷ 0 ∷ []

abbrev pub listed60 : List ℕ
listed60 = 1 ∷ 2 ∷ 0x80 ∷ 0 ∷ 1 ∷ 3 ∷ 0x7f ∷ 0 ∷ 1 ∷ 4 ∷ 0x1b0 ∷ 0 ∷ 2 ∷ 1 ∷ 0x341 ∷ 0 ∷ 24 ∷ 80 ∷ 0xffff ∷ 0 ∷ []

-- a wide page: the first cells of rows 1 and 2, and the last cell
abbrev pub wide_page : List ℕ
wide_page = 0x01 ∷ replicate 131 0x41 ++ 0x80 ∷ replicate 3034 0x41 ++ 0x8000 ∷ []

abbrev pub wide_mended : List ℕ
wide_mended = 0 ∷ replicate 131 0x41 ++ 0 ∷ replicate 3034 0x41 ++ 0 ∷ []

pub record Worked : Type 0 where
  -- unwritable cells, and no others, become nulls; each is listed in reading order, and the list's rest is untouched
  pub wy50 : mend_rule Personality.Wy50 page (replicate 22 9) ≡ outcome 0 5 mended50 (listed50 ++ 9 ∷ 9 ∷ [])
  pub wy60 : mend_rule Personality.Wy60 page (replicate 22 9) ≡ outcome 0 5 mended60 (listed60 ++ 9 ∷ 9 ∷ [])
  -- a list that just holds them, and lists that are too short: a part of an entry is none
  pub full : mend_rule Personality.Wy50 page (replicate 20 9) ≡ outcome 0 5 mended50 listed50
  pub short : mend_rule Personality.Wy50 page (replicate 19 9) ≡ outcome 6 5 page (replicate 19 9)
  pub no_list : mend_rule Personality.Wy60 page [] ≡ outcome 6 5 page []
  -- a second mending needs no list
  pub twice : mend_rule Personality.Wy50 mended50 [] ≡ outcome 0 0 mended50 []
  pub twice_60 : mend_rule Personality.Wy60 mended60 (replicate 4 9) ≡ outcome 0 0 mended60 (replicate 4 9)
  -- the page's length says its width
  pub wide : mend_rule Personality.Wy60 wide_page (replicate 13 9)
      ≡ outcome 0 3 wide_mended (1 ∷ 1 ∷ 0x01 ∷ 0 ∷ 2 ∷ 1 ∷ 0x80 ∷ 0 ∷ 24 ∷ 132 ∷ 0x8000 ∷ 0 ∷ 9 ∷ [])
  -- a length that neither width has: 7, nothing changed, and no entries are needed
  pub shorter : mend_rule Personality.Wy50 (replicate 1919 0x80) (replicate 8 9) ≡ outcome 7 0 (replicate 1919 0x80) (replicate 8 9)
  pub longer : mend_rule Personality.Wy60 (replicate 1921 0x80) [] ≡ outcome 7 0 (replicate 1921 0x80) []
  pub wider : mend_rule Personality.Wy60 (replicate 3169 0x80) [] ≡ outcome 7 0 (replicate 3169 0x80) []
  pub empty : mend_rule Personality.Wy50 [] [] ≡ outcome 7 0 [] []
