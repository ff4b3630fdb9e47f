-- Texts under way: where they go, what ends them, and which bytes they may hold (document 02, A1, amends 01: a message and labels beside keys).
use Rattle.std.specs.Prelude.{ℕ, List, [], ◌∷◌, Bool, true, ltb, leb, take}
use Rattle.rules.specs.declared.Text.{Text}
use Rattle.rules.specs.declared.Slot.{Slot}
use Rattle.rules.specs.declared.Slot.TheVariants as Slot
use Rattle.rules.specs.Cell.{both}
use Rattle.rules.specs.Arguments.{is_key, is_label}

-- a value of its kind
unfoldable pub slot_ok : Slot → Bool
slot_ok (Slot.Key v) = is_key v
slot_ok (Slot.Label v) = is_label v
slot_ok Slot.Message = true

-- the byte that ends a text, how many bytes it has at most, and the lowest of them: a key's text ends in DEL and may hold control codes, CR too;
-- the others end in CR
unfoldable pub slot_end : Slot → ℕ
slot_end (Slot.Key v) = 0x7f
slot_end (Slot.Label v) = 0x0d
slot_end Slot.Message = 0x0d

unfoldable pub slot_most : Slot → ℕ
slot_most (Slot.Key v) = 8
slot_most (Slot.Label v) = 8
slot_most Slot.Message = 46

unfoldable pub slot_low : Slot → ℕ
slot_low (Slot.Key v) = 0
slot_low (Slot.Label v) = 0x20
slot_low Slot.Message = 0x20

-- a byte from `low` to 7Eh
unfoldable pub is_text : ℕ → ℕ → Bool
is_text low b = both (leb low b) (ltb b 0x7f)

unfoldable pub all_text : ℕ → List ℕ → Bool
all_text low [] = true
all_text low (b ∷ l) = both (is_text low b) (all_text low l)

-- the first n bytes are a text of at most `most`
unfoldable pub text_ok : ℕ → ℕ → ℕ → List ℕ → Bool
text_ok low most n bytes = both (leb n most) (all_text low (take n bytes))

unfoldable pub texts_ok : ℕ → List (Text 8) → Bool
texts_ok low [] = true
texts_ok low (t ∷ l) = both (text_ok low 8 t.len t.bytes) (texts_ok low l)
