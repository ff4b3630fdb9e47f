-- The kinds of cells, and their numbers.
use Rattle.std.specs.Prelude.{ℕ}
use Rattle.page.specs.declared.cell.Kind.{Kind}

unfoldable pub kind_number : Kind → ℕ
kind_number Kind.Text = 0
kind_number Kind.Attribute = 1
kind_number Kind.Graphic = 2
