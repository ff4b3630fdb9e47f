-- Laws of the tests on a cell's number, of each case of the code.
-- Assumes nothing.
use mathlib.Core.Path.{◌≡◌, refl, sym, ◌∙◌}
use mathlib.Core.Bool.{Bool, true, false}
use Prim.Native.Nat.{ℕ, ◌/◌, ◌%◌, ◌≤◌, ◌<◌}
use lib.Dec.{eqb}
use borrow.Author.Tests.{lt-ltb, le-ltb, ne_eqb}
use Rattle.rules.specs.declared.Personality.{Personality}
use Rattle.rules.specs.Cell.{both, either, between, code, attribute}
use Rattle.rules.specs.Arguments.{is_flags}
use Rattle.rules.specs.Possible.{remembered_ok}
use Rattle.rules.specs.Writable.{is_stored, is_attribute_cell}

either_false : (t : Bool) → either t false ≡ t
either_false true = refl
either_false false = refl

both_true : (t : Bool) → both t true ≡ t
both_true true = refl
both_true false = refl

both_false : (t : Bool) → both t false ≡ false
both_false true = refl
both_false false = refl

module _ (m : Personality) (v : ℕ) where
  pub too_large : 32768 ≤ v → false ≡ is_stored m v
  unfolding is_stored
  too_large h = rw (le-ltb v 32768 h)

  module _ (l : v < 32768) where
    pub not_remembered : remembered_ok m (attribute v) ≡ false → false ≡ is_stored m v
    unfolding is_stored
    not_remembered e = rw (lt-ltb v 32768 l, e)

    module _ (h : remembered_ok m (attribute v) ≡ true) where
      pub is_text_lem : {r : Bool} → v / 256 % 4 ≡ 0 → r ≡ between 0x20 0x7e (code v) → r ≡ is_stored m v
      unfolding is_stored
      is_text_lem e f = rw (lt-ltb v 32768 l, h, e) (f ∙ sym (either_false (between 0x20 0x7e (code v))))

      pub is_graphic : {r : Bool} → v / 256 % 4 ≡ 2 → r ≡ between 0x30 0x3f (code v) → r ≡ is_stored m v
      unfolding is_stored
      is_graphic e f = rw (lt-ltb v 32768 l, h, e) f

      pub is_neither : (v / 256 % 4 ≡ 0 → ⊥) → (v / 256 % 4 ≡ 2 → ⊥) → false ≡ is_stored m v
      unfolding is_stored
      is_neither e f = rw (lt-ltb v 32768 l, h, ne_eqb (v / 256 % 4) 0 e, ne_eqb (v / 256 % 4) 2 f)

pub no_flags : (m : Personality) (v : ℕ) → is_flags (code v) ≡ false → false ≡ is_attribute_cell m v
unfolding is_attribute_cell
no_flags Personality.Wy50 v e = rw e (sym (both_false (eqb (v / 256) 1)))
no_flags Personality.Wy60 v e = rw e (sym (both_false (eqb (v / 128) 2)))

pub flags_50 : (v : ℕ) → is_flags (code v) ≡ true → eqb (v / 256) 1 ≡ is_attribute_cell Personality.Wy50 v
unfolding is_attribute_cell
flags_50 v e = rw e (sym (both_true (eqb (v / 256) 1)))

pub flags_60 : (v : ℕ) → is_flags (code v) ≡ true → eqb (v / 128) 2 ≡ is_attribute_cell Personality.Wy60 v
unfolding is_attribute_cell
flags_60 v e = rw e (sym (both_true (eqb (v / 128) 2)))
