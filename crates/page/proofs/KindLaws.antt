-- Laws of kinds and their numbers.
-- Assumes nothing.
use mathlib.Core.Path.{◌≡◌, refl, sym, ap, ◌∙◌}
use mathlib.Core.Bool.{Bool}
use Prim.Native.Nat.{ℕ}
use Prim.Native.Nat.{◌≤◌}
use native.Mathlib.Omega.{arith}
use lib.Dec.{eqb}
use denote.Enum.Bare.{sameb}
use Rattle.page.specs.contracts.cell.Kind.{the_type}
use Rattle.page.specs.declared.cell.Kind.{Kind}
use Rattle.page.specs.Kind.{kind_number}

pub kind_most : (k : Kind) → kind_number k ≤ 2
unfolding kind_number
kind_most Kind.Text = omega arith
kind_most Kind.Attribute = omega arith
kind_most Kind.Graphic = omega arith

same_text : (k : Kind) → sameb the_type k Kind.Text ≡ eqb (kind_number k) 0
unfolding kind_number
same_text Kind.Text = refl
same_text Kind.Attribute = refl
same_text Kind.Graphic = refl

-- `==` with text, of the kind whose number is n
pub is_text : (k : Kind) {n : ℕ} {b t : Bool} → kind_number k ≡ n → b ≡ sameb the_type k Kind.Text → b ≡ t → eqb n 0 ≡ t
is_text k e h i = ap (λ (m : ℕ). eqb m 0) (sym e) ∙ sym (same_text k) ∙ sym h ∙ i
