-- Worked numbers of document 02, A13: which ones each personality writes, at the edges of every range.
use Rattle.std.specs.Prelude.{◌≡◌, Bool, true, not, List, [], ◌∷◌, ℕ}
use Rattle.rules.specs.declared.Personality.{Personality}
use Rattle.rules.specs.declared.Personality.TheVariants as Personality
use Rattle.rules.specs.Cell.{both}
use Rattle.rules.specs.Writable.{writable}

-- all of the numbers, and none of them
unfoldable pub all_of : Personality → List ℕ → Bool
all_of m [] = true
all_of m (v ∷ l) = both (writable m v) (all_of m l)

unfoldable pub none_of : Personality → List ℕ → Bool
none_of m [] = true
none_of m (v ∷ l) = both (not (writable m v)) (none_of m l)

pub record WritableCases : Type 0 where
  -- in both: the null; text and graphics, protected or not; attribute cells unprotected
  pub text_50 : all_of Personality.Wy50 (0 ∷ 0x20 ∷ 0x7e ∷ 0xa0 ∷ 0xfe ∷ 0x230 ∷ 0x23f ∷ 0x2b0 ∷ 0x2bf ∷ 0x130 ∷ 0x13f ∷ 0x170 ∷ 0x17e ∷ []) ≡ true
  pub text_60 : all_of Personality.Wy60 (0 ∷ 0x20 ∷ 0x7e ∷ 0xa0 ∷ 0xfe ∷ 0x230 ∷ 0x23f ∷ 0x2b0 ∷ 0x2bf ∷ 0x130 ∷ 0x13f ∷ 0x170 ∷ 0x17e ∷ []) ≡ true
  -- a protected attribute cell: in WY-50 alone
  pub attribute_50 : all_of Personality.Wy50 (0x1b0 ∷ 0x1bf ∷ 0x1f0 ∷ 0x1fe ∷ []) ≡ true
  pub attribute_60 : none_of Personality.Wy60 (0x1b0 ∷ 0x1bf ∷ 0x1f0 ∷ 0x1fe ∷ []) ≡ true
  -- text and graphics with flags, from blank alone to dim with underscore, reverse and blink: in WY-60 alone
  pub flagged_60 : all_of Personality.Wy60
      (0x420 ∷ 0x841 ∷ 0x1041 ∷ 0x2041 ∷ 0x4041 ∷ 0x4a0 ∷ 0x47e ∷ 0x630 ∷ 0x7820 ∷ 0x787e ∷ 0x78fe ∷ 0x7a30 ∷ 0x7abf ∷ []) ≡ true
  pub flagged_50 : none_of Personality.Wy50
      (0x420 ∷ 0x841 ∷ 0x1041 ∷ 0x2041 ∷ 0x4041 ∷ 0x4a0 ∷ 0x47e ∷ 0x630 ∷ 0x7820 ∷ 0x787e ∷ 0x78fe ∷ 0x7a30 ∷ 0x7abf ∷ []) ≡ true
  -- in neither: other codes of text, 7Fh among them, and the protected null
  pub no_text_50 : none_of Personality.Wy50 (0x01 ∷ 0x1f ∷ 0x7f ∷ 0x80 ∷ 0x81 ∷ 0x9f ∷ 0xff ∷ []) ≡ true
  pub no_text_60 : none_of Personality.Wy60 (0x01 ∷ 0x1f ∷ 0x7f ∷ 0x80 ∷ 0x81 ∷ 0x9f ∷ 0xff ∷ []) ≡ true
  -- other codes of attributes, 20h among them, which is stored as text; other codes of graphics
  pub no_attribute_50 : none_of Personality.Wy50 (0x100 ∷ 0x120 ∷ 0x12f ∷ 0x140 ∷ 0x16f ∷ 0x17f ∷ 0x180 ∷ 0x1a0 ∷ 0x1af ∷ 0x1c0 ∷ 0x1ef ∷ 0x1ff ∷ [])
      ≡ true
  pub no_attribute_60 : none_of Personality.Wy60 (0x100 ∷ 0x120 ∷ 0x12f ∷ 0x140 ∷ 0x16f ∷ 0x17f ∷ 0x180 ∷ 0x1a0 ∷ 0x1af ∷ 0x1c0 ∷ 0x1ef ∷ 0x1ff ∷ [])
      ≡ true
  pub no_graphic_50 : none_of Personality.Wy50 (0x200 ∷ 0x220 ∷ 0x22f ∷ 0x240 ∷ 0x280 ∷ 0x2af ∷ 0x2c0 ∷ []) ≡ true
  pub no_graphic_60 : none_of Personality.Wy60 (0x200 ∷ 0x220 ∷ 0x22f ∷ 0x240 ∷ 0x280 ∷ 0x2af ∷ 0x2c0 ∷ 0x640 ∷ []) ≡ true
  -- kind 3, and the bit worth 32768
  pub no_kind_50 : none_of Personality.Wy50 (0x330 ∷ 0x341 ∷ 0x3b0 ∷ 0x8000 ∷ 0x8020 ∷ 0x8130 ∷ 0x8230 ∷ 0xffff ∷ []) ≡ true
  pub no_kind_60 : none_of Personality.Wy60 (0x330 ∷ 0x341 ∷ 0x3b0 ∷ 0x730 ∷ 0x8000 ∷ 0x8020 ∷ 0x8130 ∷ 0x8230 ∷ 0xf820 ∷ 0xffff ∷ []) ≡ true
  -- dim with all four others; a null and an attribute cell with flags
  pub no_flags_60 : none_of Personality.Wy60 (0x7c20 ∷ 0x7c41 ∷ 0x7ca0 ∷ 0x7e30 ∷ 0x400 ∷ 0x480 ∷ 0x7800 ∷ 0x530 ∷ 0x5b0 ∷ 0x7930 ∷ []) ≡ true
