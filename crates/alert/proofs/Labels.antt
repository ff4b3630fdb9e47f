-- Laws of the message and the labels as they are shown.
--     shown_on, shown_off                     a label of the shifted line, of the unshifted one
-- Assumes nothing.
use Rattle.std.proofs.Common.{◌≡◌, ℕ, ◌+◌, ◌-◌, ◌<◌, Bool, true, false, List, [], get_or, sym, ap, ◌∙◌, arith, le-ltb, lt-ltb}
use Rattle.rules.specs.Cell.{pick}
use Rattle.rules.specs.State.{label_place}
use Rattle.rules.specs.declared.Text.{Text}

-- the field of label i of the shown line
abbrev field : Bool → ℕ → ℕ
field on i = pick on 0x50 0x30 + i

place_on : (on : Bool) (i : ℕ) → on ≡ true → 8 + i ≡ label_place (field on i)
place_on on i e =
    let u : label_place (field on i) ≡ label_place (0x50 + i) = ap (λ b. label_place (field b i)) e in
    let t : label_place (0x50 + i) ≡ 0x50 + i - 0x48 =
    ap (λ b. pick b (0x50 + i - 0x30) (0x50 + i - 0x48)) (le-ltb (0x50 + i) 0x50 (omega arith)) in
    let o : 8 + i ≡ 0x50 + i - 0x48 = omega arith in
    o ∙ sym (u ∙ t)

place_off : (on : Bool) (i : ℕ) → on ≡ false → i < 8 → i ≡ label_place (field on i)
place_off on i e h =
    let u : label_place (field on i) ≡ label_place (0x30 + i) = ap (λ b. label_place (field b i)) e in
    let t : label_place (0x30 + i) ≡ 0x30 + i - 0x30 =
    ap (λ b. pick b (0x30 + i - 0x30) (0x30 + i - 0x48)) (lt-ltb (0x30 + i) 0x50 (omega (arith, h))) in
    let o : i ≡ 0x30 + i - 0x30 = omega arith in
    o ∙ sym (u ∙ t)

abbrev at : List (Text 8) → ℕ → Text 8
at l n = get_or l n record { len = 0; bytes = [] }

pub shown_on : (l : List (Text 8)) (on : Bool) (i : ℕ) → on ≡ true → at l (8 + i) ≡ at l (label_place (field on i))
shown_on l on i e = ap (λ n. at l n) (place_on on i e)

pub shown_off : (l : List (Text 8)) (on : Bool) (i : ℕ) → on ≡ false → i < 8 → at l i ≡ at l (label_place (field on i))
shown_off l on i e h = ap (λ n. at l n) (place_off on i e h)
