-- What a call gives, as the numbers that C holds.
use Rattle.std.specs.Prelude.{ℕ, Option, None, Some, Result, Ok, Err}
use Rattle.fields.specs.declared.Refusal.{Refusal}
use Rattle.fields.specs.declared.RowColumn.{RowColumn}
use Rattle.rules.specs.declared.Field.{Field}
use Rattle.rules.specs.declared.Position.{Position}
use Rattle.rules.specs.declared.TextResult.{TextResult}
use Rattle.rules.specs.Fields.{no_field, position}

unfoldable pub refusal_number : Refusal → ℕ
refusal_number Refusal.BadArgument = 3
refusal_number Refusal.NoRoom = 6
refusal_number Refusal.BadCall = 7

unfoldable pub field_given : Option Field → Field
field_given None = no_field
field_given (Some f) = f

-- a text that is so long
unfoldable pub text_given : Result ℕ Refusal → TextResult
text_given (Ok n) = record { answer = 0; size = n }
text_given (Err e) = record { answer = refusal_number e; size = 0 }

unfoldable pub position_given : Result RowColumn Refusal → Position
position_given (Ok p) = position 0 p.row p.column
position_given (Err e) = position (refusal_number e) 0 0

-- a cell of a page of n cells; n for none
unfoldable pub cell_given : ℕ → Option ℕ → ℕ
cell_given n None = n
cell_given n (Some cell) = cell
