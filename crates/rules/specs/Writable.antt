-- The numbers that a terminal of each personality writes into cells (document 02, A13: "one that the terminal could have written under a named
-- personality"). CellReach.antt states that these are the ones.
use Rattle.std.specs.Prelude.{◌≡◌, Bool, true, List, [], ◌∷◌, ℕ, ◌/◌, ◌%◌, ltb, eqb}
use Rattle.rules.specs.declared.Personality.{Personality}
use Rattle.rules.specs.declared.Personality.TheVariants as Personality
use Rattle.rules.specs.Cell.{both, either, between, code, attribute, null}
use Rattle.rules.specs.Arguments.{is_flags}
use Rattle.rules.specs.Possible.{remembered_ok}

-- a text of 20h to 7Eh or a graphic of 30h to 3Fh, protected or not, with an attribute that the personality remembers; the bit worth 32768 is 0
unfoldable pub is_stored : Personality → ℕ → Bool
is_stored m v =
    both (ltb v 32768) (both (remembered_ok m (attribute v))
    (either (both (eqb (v / 256 % 4) 0) (between 0x20 0x7e (code v))) (both (eqb (v / 256 % 4) 2) (between 0x30 0x3f (code v)))))

-- an attribute cell, all its flags 0: in WY-50 what ESC G stores, protected or not; in WY-60 only ESC ! writes one, unprotected
unfoldable pub is_attribute_cell : Personality → ℕ → Bool
is_attribute_cell Personality.Wy50 v = both (eqb (v / 256) 1) (is_flags (code v))
is_attribute_cell Personality.Wy60 v = both (eqb (v / 128) 2) (is_flags (code v))

-- one of these, or an unprotected null
unfoldable pub writable : Personality → ℕ → Bool
writable m v = either (eqb v null) (either (is_stored m v) (is_attribute_cell m v))

-- every cell of a page holds such a number
pub data AllWritable (m : Personality) : List ℕ → Type 0 where
  none : AllWritable m []
  more : {v : ℕ} {p : List ℕ} → writable m v ≡ true → AllWritable m p → AllWritable m (v ∷ p)
