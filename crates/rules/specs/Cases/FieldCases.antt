-- Worked cases of fields, rows and places.
use Rattle.std.specs.Prelude.{◌≡◌, true, false, List, [], ◌∷◌, ◌++◌, ℕ, replicate}
use Rattle.rules.specs.declared.Field.{Field}
use Rattle.rules.specs.Fields.{next_field_rule, told, field_text_rule, row_text_rule, position, position_rule, cell_rule}
use Rattle.rules.specs.Cases.Inputs.{page_of}

abbrev field : ℕ → ℕ → ℕ → ℕ → Field
field at n row column = record { start = at; size = n; row = row; column = column }

-- row 1: a label, A B, a label, a space, C and spaces; row 2: protected spaces; row 3: A, a space, B, an attribute, a label, nulls
unfoldable pub filled_form : List ℕ
filled_form = page_of (206 ∷ 65 ∷ 66 ∷ 206 ∷ 32 ∷ 67 ∷ replicate 74 32 ++ replicate 80 160 ++ 65 ∷ 32 ∷ 66 ∷ 0x141 ∷ 206 ∷ [])

unfoldable pub wide_form : List ℕ
wide_form = 206 ∷ replicate 3166 0 ++ 206 ∷ []

pub record FieldCases : Type 0 where
  -- the next field starts at or behind the place; a protected row has none
  pub first : next_field_rule filled_form 0 ≡ field 1 2 0 1
  pub at : next_field_rule filled_form 1 ≡ field 1 2 0 1
  pub behind : next_field_rule filled_form 2 ≡ field 4 76 0 4
  pub next_row : next_field_rule filled_form 5 ≡ field 160 4 2 0
  -- a row's end ends a field, and begins one
  pub cut : next_field_rule filled_form 161 ≡ field 165 75 2 5
  pub row : next_field_rule filled_form 166 ≡ field 240 80 3 0
  pub last : next_field_rule filled_form 1840 ≡ field 1840 80 23 0
  pub none : next_field_rule filled_form 1841 ≡ field 0 0 0 0
  pub past : next_field_rule filled_form 1920 ≡ field 0 0 0 0
  pub labels : next_field_rule (replicate 1920 160) 0 ≡ field 0 0 0 0
  -- a page of 132 columns, and lengths that are no page's
  pub wide : next_field_rule wide_form 0 ≡ field 1 131 0 1
  pub wide_row : next_field_rule wide_form 2 ≡ field 132 132 1 0
  pub wide_last : next_field_rule wide_form 3036 ≡ field 3036 131 23 0
  pub short : next_field_rule (replicate 1919 0) 0 ≡ field 0 0 0 0
  pub long : next_field_rule (replicate 3169 0) 0 ≡ field 0 0 0 0
  -- a field's text, whole or not at all; only trailing spaces are dropped
  pub text : field_text_rule filled_form 1 false 2 ≡ told 0 (65 ∷ 66 ∷ [])
  pub no_room : field_text_rule filled_form 1 false 1 ≡ told 6 []
  pub trimmed : field_text_rule filled_form 4 true 2 ≡ told 0 (32 ∷ 67 ∷ [])
  pub untrimmed : field_text_rule filled_form 4 false 76 ≡ told 0 (32 ∷ 67 ∷ replicate 74 32)
  pub untrimmed_no_room : field_text_rule filled_form 4 false 75 ≡ told 6 []
  pub inner_space : field_text_rule filled_form 160 true 80 ≡ told 0 (65 ∷ 32 ∷ 66 ∷ [])
  pub spaces : field_text_rule filled_form 165 true 0 ≡ told 0 []
  -- no field starts at a label, inside a field or past the page
  pub label : field_text_rule filled_form 0 true 80 ≡ told 3 []
  pub inside : field_text_rule filled_form 2 true 80 ≡ told 3 []
  pub past_page : field_text_rule filled_form 1920 true 80 ≡ told 3 []
  pub no_page : field_text_rule (replicate 1921 0) 0 true 80 ≡ told 7 []
  -- a row's text, labels too
  pub row_text : row_text_rule filled_form 0 true 6 ≡ told 0 (78 ∷ 65 ∷ 66 ∷ 78 ∷ 32 ∷ 67 ∷ [])
  pub row_no_room : row_text_rule filled_form 0 true 5 ≡ told 6 []
  pub row_untrimmed : row_text_rule filled_form 23 false 80 ≡ told 0 (replicate 80 32)
  pub wide_row_text : row_text_rule wide_form 23 false 132 ≡ told 0 (replicate 131 32 ++ 78 ∷ [])
  pub no_row : row_text_rule filled_form 24 true 80 ≡ told 3 []
  pub row_no_page : row_text_rule (replicate 1919 0) 24 true 80 ≡ told 7 []
  -- places
  pub position_is : position_rule 1920 165 ≡ position 0 2 5
  pub last_position : position_rule 1920 1919 ≡ position 0 23 79
  pub no_position : position_rule 1920 1920 ≡ position 3 0 0
  pub wide_position : position_rule 3168 137 ≡ position 0 1 5
  pub position_no_page : position_rule 1921 0 ≡ position 7 0 0
  pub cell_is : cell_rule 1920 2 5 ≡ 165
  pub no_column : cell_rule 1920 0 80 ≡ 1920
  pub no_such_row : cell_rule 1920 24 0 ≡ 1920
  pub wide_cell : cell_rule 3168 1 131 ≡ 263
  pub cell_no_page : cell_rule 1919 0 0 ≡ 1919
