-- No write changes the page's length, whatever its numbers are.
--     length_applied     a write
--     length_after       both writes of a plan
-- Assumes nothing.
use mathlib.Core.Path.{◌≡◌, refl, ◌∙◌}
use mathlib.Core.Bool.{Bool, true, false}
use mathlib.Core.List.{List}
use Prim.Native.Nat.{ℕ, zero, suc, ◌+◌, ◌-◌, ◌*◌}
use native.Mathlib.Omega.{arith}
use lib.ListN.{length, length-append, length-take, length-drop, length-map, length-replicate}
use Rattle.rules.specs.declared.Plan.{Plan}
use Rattle.rules.specs.declared.Write.{Write}
use Rattle.rules.specs.declared.Write.TheVariants as Write
use Rattle.rules.specs.Search.{guarded_at, edit_end}
use Rattle.rules.specs.Cell.{space}
use Rattle.rules.specs.Change.{within, fill_cell, filled, shift_left, shift_right, shifted, edit_shifted, rows_shifted, column_filled}
use Rattle.rules.specs.Carry.{applied, plan_width, page_after}

pub length_within : (a e : ℕ) (f : List ℕ → List ℕ) → ((l : List ℕ) → length (f l) ≡ length l) → (p : List ℕ) → length (within a e f p) ≡ length p
unfolding within
length_within a e f same p =
    simp (length-append, same, length-take, length-drop) (omega arith)

pub length_filled : (on : Bool) (v : ℕ) (p : List ℕ) → length (filled on v p) ≡ length p
unfolding filled
length_filled on v p = length-map p (fill_cell on v)

pub length_shifted : (right : Bool) (k v : ℕ) (p : List ℕ) → length (shifted right k v p) ≡ length p
unfolding shift_left shift_right
length_shifted true k v p = simp (length-take, length-append, length-replicate) (omega arith)
length_shifted false k v p = simp (length-drop, length-append, length-replicate) (omega arith)

pub length_column : (w : ℕ) (on : Bool) (v column n row : ℕ) (p : List ℕ) → length (column_filled w on v column n row p) ≡ length p
unfolding column_filled
length_column w on v column zero row p = refl
length_column w on v column (suc n) row p =
    length_column w on v column n (suc row) _ ∙ length_within (row * w + column) (row * w + column + 1) (filled on v) (length_filled on v) p

pub length_applied : (w : ℕ) (on : Bool) (x : Write) (p : List ℕ) → length (applied w on x p) ≡ length p
unfolding applied edit_shifted rows_shifted
length_applied w on Write.Nothing p = refl
length_applied w on (Write.Fill a e v) p = length_within a e (filled on v) (length_filled on v) p
length_applied w on (Write.FillAll a e v) p = length_within a e (filled false v) (length_filled false v) p
length_applied w on (Write.Column top bottom c v) p = length_column w on v c (bottom - top) top p
length_applied w on (Write.Edit right at v) p = length_within at (edit_end w (guarded_at on p) at) (shifted right 1 v) (length_shifted right 1 v) p
length_applied w on (Write.Rows down top bottom) p = length_within
    (top * w) (bottom * w) (shifted down w space) (length_shifted down w space) p

pub length_after : (on : Bool) (x : Plan) (p : List ℕ) → length (page_after on x p) ≡ length p
length_after on x p =
    length_applied (plan_width x) on x.second (applied (plan_width x) on x.first p) ∙ length_applied (plan_width x) on x.first p
