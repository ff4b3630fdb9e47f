-- Each statement used at both widths, and what is told where there is no field, by its numbers.
use Rattle.std.specs.Prelude.{◌≡◌, Bool, true, false, List, [], ℕ, ◌/◌, ◌%◌, ◌<◌, length, replicate}
use Rattle.std.proofs.Math.Seq.{slice}
use Rattle.rules.specs.declared.Place.TheVariants as Place
use Rattle.rules.specs.Send.{bytes_of, text_at}
use Rattle.rules.specs.Fields.{field_starts, is_field_start, field_end, next_field_rule, position, position_rule, cell_rule}
use Rattle.fields.specs.Theorems.{protected_in, LongestStretch, InField, cut_up, filled, texts_from}

-- a page without an open cell, one that a field does not follow, and no page
pub record NoFields : Type 0 where
  pub labels : next_field_rule (replicate 1920 160) 0 ≡ record { start = 0; size = 0; row = 0; column = 0 }
  pub behind : next_field_rule (replicate 3168 0) 3168 ≡ record { start = 0; size = 0; row = 0; column = 0 }
  pub no_page : next_field_rule [] 0 ≡ record { start = 0; size = 0; row = 0; column = 0 }

-- a page of w columns, any cells in it
pub record OfWidth (w n : ℕ) : Type 0 where
  pub stretch : (p : List ℕ) → length p ≡ n → (a : ℕ) → is_field_start w p a ≡ true → LongestStretch w p a (field_end w p a)
  pub in_field : (p : List ℕ) → length p ≡ n → (i : ℕ) → i < n → protected_in p i ≡ false → InField w p i
  pub cell : (at : ℕ) → at < n → cell_rule n (at / w) (at % w) ≡ at
  pub place : (row column : ℕ) → row < 24 → column < w → position_rule n (cell_rule n row column) ≡ position 0 row column
  pub pieces : (p : List ℕ) → length p ≡ n → (segment : Bool)
      → filled (cut_up (bytes_of (text_at w p n false segment (Place.Cell 0)))) ≡ texts_from w p 0 (slice 0 n (field_starts w p))

pub record Uses : Type 0 where
  pub none : NoFields
  pub narrow : OfWidth 80 1920
  pub wide : OfWidth 132 3168
