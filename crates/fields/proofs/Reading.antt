-- Laws of the calls, of each case: no page, nothing there, and what is there.
-- Assumes nothing.
use mathlib.Core.Path.{◌≡◌, refl, sym, ap, subst, ◌∙◌}
use mathlib.Core.Bool.{Bool, true, false}
use mathlib.Core.List.{List, []}
use Prim.Native.Nat.{ℕ, ◌+◌, ◌-◌, ◌*◌, ◌/◌, ◌%◌, ◌≤◌, ◌<◌}
use lib.ListN.{length, get_or-eq_default}
use native.Mathlib.Omega.{arith}
use borrow.Author.Tests.{lt-ltb, le-ltb, le-leb, lt-leb, ne_eqb}
use Rattle.rules.specs.declared.TextResult.{TextResult}
use Rattle.rules.specs.declared.Field.{Field}
use Rattle.rules.specs.declared.Position.{Position}
use Rattle.rules.specs.Row.{Width, columns, height}
use Rattle.rules.specs.Room.{over}
use Rattle.rules.specs.Fields.{page_width, field_starts, is_field_start, field_end, next_start, field_at, no_field, next_field_rule, text_of, Told, told}
use Rattle.rules.specs.Fields.{fitting, field_text_rule, row_text_rule, Read, position, position_rule, cell_rule}
use Rattle.std.specs.Prelude.{Ok, Err}
use Rattle.fields.specs.declared.Refusal.{Refusal}
use Rattle.fields.specs.Given.{refusal_number, text_given}
use Rattle.rules.proofs.Rows.{by_width}
use Rattle.rules.proofs.Fields.{length_starts, page_of_lem}

pub some_columns : (wide : Bool) → columns wide ≡ 0 → ⊥
unfolding columns
some_columns true e = omega (arith, e)
some_columns false e = omega (arith, e)

-- a page has 24 rows
pub page_long : (wide : Bool) (n : ℕ) → page_width n ≡ columns wide → n ≡ 24 * columns wide
page_long wide n e = (page_of_lem n (sym e) (some_columns wide)).1

pub read_as : {o o' : Told} {r : TextResult} {w w' : List ℕ} → o ≡ o' → Read o r w w' → Read o' r w w'
read_as {r = r} {w = w} {w' = w'} e x = subst (λ (o : Told). Read o r w w') e x

pub refused : (e : Refusal) (w : List ℕ) → Read (told (refusal_number e) []) (text_given (Err e)) w w
unfolding text_given over
refused e w = record { answer = refl; counts = refl; room = refl }

pub fits : (t : List ℕ) (room : ℕ) → length t ≤ room → told 0 t ≡ fitting t room
unfolding fitting
fits t room h = rw (le-leb (length t) room h)

pub no_room : (t : List ℕ) (room : ℕ) → room < length t → told 6 [] ≡ fitting t room
unfolding fitting
no_room t room h = rw (lt-leb (length t) room h)

pub made : (w : ℕ) (p : List ℕ) (at : ℕ) {end row column : ℕ} → end ≡ field_end w p at → row ≡ at / w → column ≡ at % w
    → ◌≡◌ {A = Field} (record { start = at; size = end - at; row = row; column = column }) (field_at w p at)
made w p at e r c = rw (e, r, c)

-- the text that was put is the one that was asked for
pub whole : {t u w w' : List ℕ} {n : ℕ} → u ≡ t → length u ≡ n → n ≤ length w → w' ≡ over u w
    → Read (fitting t (length w)) (text_given (Ok n)) w w'
unfolding text_given
whole {t} {u} {w} e s h f = read_as (ap (told 0) e ∙ fits t (length w) (rw (← e, s) h)) (record { answer = refl; counts = sym s; room = f })

pub row_fits : {w n : ℕ} → Width w → n ≡ 24 * w → (row : ℕ) → row < 24 → row * w + w ≤ n
row_fits {n = n} k e row h = by_width (λ (w : ℕ). n ≡ 24 * w → row * w + w ≤ n) (λ e. omega arith) (λ e. omega arith) k e

-- no page has this length
module _ (p : List ℕ) (e : page_width (length p) ≡ 0) where
  pub no_page_field : (from : ℕ) → no_field ≡ next_field_rule p from
  unfolding next_field_rule
  no_page_field from = rw e

  pub no_page_text : (at : ℕ) (trim : Bool) (room : ℕ) → told 7 [] ≡ field_text_rule p at trim room
  unfolding field_text_rule
  no_page_text at trim room = rw e

  pub no_page_row : (row : ℕ) (trim : Bool) (room : ℕ) → told 7 [] ≡ row_text_rule p row trim room
  unfolding row_text_rule
  no_page_row row trim room = rw e

-- a page of width w
module _ {w : ℕ} (p : List ℕ) (e : page_width (length p) ≡ w) (z : w ≡ 0 → ⊥) where
  pub no_field_lem : {at : ℕ} (from : ℕ) → at ≡ next_start w p from → length p ≤ at → no_field ≡ next_field_rule p from
  unfolding next_field_rule
  no_field_lem {at} from s h = rw (e, ne_eqb w 0 z, ← s, le-ltb at (length p) h)

  pub a_field : {at : ℕ} (from : ℕ) → at ≡ next_start w p from → at < length p → field_at w p at ≡ next_field_rule p from
  unfolding next_field_rule
  a_field {at} from s h = rw (e, ne_eqb w 0 z, ← s, lt-ltb at (length p) h)

  module _ (at : ℕ) (trim : Bool) (room : ℕ) where
    pub no_start : is_field_start w p at ≡ false → told 3 [] ≡ field_text_rule p at trim room
    unfolding field_text_rule
    no_start s = rw (e, ne_eqb w 0 z, s)

    pub past_page : length p ≤ at → told 3 [] ≡ field_text_rule p at trim room
    past_page h = no_start (get_or-eq_default (field_starts w p) false (omega (arith, length_starts w p)))

    pub a_start : {end : ℕ} → is_field_start w p at ≡ true → end ≡ field_end w p at → fitting (text_of trim at end p) room ≡ field_text_rule p at trim room
    unfolding field_text_rule
    a_start s f = rw (e, ne_eqb w 0 z, s, ← f)

  module _ (row : ℕ) (trim : Bool) (room : ℕ) where
    pub no_row : height ≤ row → told 3 [] ≡ row_text_rule p row trim room
    unfolding row_text_rule
    no_row h = rw (e, ne_eqb w 0 z, le-ltb row height h)

    pub a_row : row < height → fitting (text_of trim (row * w) (row * w + w) p) room ≡ row_text_rule p row trim room
    unfolding row_text_rule
    a_row h = rw (e, ne_eqb w 0 z, lt-ltb row height h)

-- ---- places

pub placed : (w at : ℕ) {row column : ℕ} → row ≡ at / w → column ≡ at % w
    → ◌≡◌ {A = Position} (record { answer = 0; row = row; column = column }) (position 0 (at / w) (at % w))
placed w at r c = rw (r, c)

module _ (n : ℕ) (e : page_width n ≡ 0) where
  pub no_page_position : (at : ℕ) → position 7 0 0 ≡ position_rule n at
  unfolding position_rule
  no_page_position at = rw e

  pub no_page_cell : (row column : ℕ) → n ≡ cell_rule n row column
  unfolding cell_rule
  no_page_cell row column = rw e

module _ {w : ℕ} (n : ℕ) (e : page_width n ≡ w) (z : w ≡ 0 → ⊥) where
  pub outside : (at : ℕ) → n ≤ at → position 3 0 0 ≡ position_rule n at
  unfolding position_rule
  outside at h = rw (e, ne_eqb w 0 z, le-ltb at n h)

  pub inside : (at : ℕ) → at < n → position 0 (at / w) (at % w) ≡ position_rule n at
  unfolding position_rule
  inside at h = rw (e, ne_eqb w 0 z, lt-ltb at n h)

  module _ (row column : ℕ) where
    pub no_such_row : height ≤ row → n ≡ cell_rule n row column
    unfolding cell_rule
    no_such_row h = rw (e, ne_eqb w 0 z, le-ltb row height h)

    pub no_such_column : row < height → w ≤ column → n ≡ cell_rule n row column
    unfolding cell_rule
    no_such_column h k = rw (e, ne_eqb w 0 z, lt-ltb row height h, le-ltb column w k)

    pub a_cell : row < height → column < w → row * w + column ≡ cell_rule n row column
    unfolding cell_rule
    a_cell h k = rw (e, ne_eqb w 0 z, lt-ltb row height h, lt-ltb column w k)
