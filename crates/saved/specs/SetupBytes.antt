-- A set-up as the terminal's own command bytes (document 02, A10): its tab stops, features, field attributes, keys and labels, each group
-- ascending by value.
use Rattle.std.specs.Prelude.{Bool, List, [], ◌∷◌, ◌++◌, ℕ, suc, ◌+◌, ltb, get_or, take}
use Rattle.rules.specs.declared.Setup.{Setup}
use Rattle.rules.specs.declared.Text.{Text}
use Rattle.rules.specs.Cell.{pick}
use Rattle.rules.specs.Row.{addressed}
use Rattle.rules.specs.State.{short_bytes}

-- ESC = 20h c ESC 1 for each stop; n is the column, from 0, of the list's first
unfoldable pub stop_bytes : ℕ → List Bool → List ℕ
stop_bytes n [] = []
stop_bytes n (b ∷ l) = pick b (0x1b ∷ 0x3d ∷ 0x20 ∷ (0x20 + n) ∷ 0x1b ∷ 0x31 ∷ []) [] ++ stop_bytes (suc n) l

-- the five features by code: the protected look is 36h, 37h or 41h, and 41h comes behind the scrolling code
unfoldable pub by_code : List ℕ → List ℕ
by_code l =
    get_or l 0 0 ∷ get_or l 1 0
    ∷ pick (ltb (get_or l 2 0) 0x41) (get_or l 2 0 ∷ get_or l 3 0 ∷ get_or l 4 0 ∷ []) (get_or l 3 0 ∷ get_or l 4 0 ∷ get_or l 2 0 ∷ [])

-- ESC ` f for each code
unfoldable pub feature_bytes : List ℕ → List ℕ
feature_bytes [] = []
feature_bytes (f ∷ l) = 0x1b ∷ 0x60 ∷ f ∷ feature_bytes l

-- ESC A n attr; the list's first is that of n
unfoldable pub attribute_bytes : ℕ → List ℕ → List ℕ
attribute_bytes n [] = []
attribute_bytes n (a ∷ l) = 0x1b ∷ 0x41 ∷ n ∷ a ∷ attribute_bytes (suc n) l

-- ESC z value text and the byte that ends it, for each text, empty ones too; the list's first is that of the value v
unfoldable pub text_bytes : ℕ → ℕ → Text 8 → List ℕ
text_bytes end v t = 0x1b ∷ 0x7a ∷ v ∷ short_bytes t ++ end ∷ []

unfoldable pub texts_bytes : ℕ → (ℕ → ℕ) → ℕ → List (Text 8) → List ℕ
texts_bytes end value n [] = []
texts_bytes end value n (t ∷ l) = text_bytes end (value n) t ++ texts_bytes end value (suc n) l

-- the value of the place n, those of the places from `half` on apart
abbrev pub value_in : ℕ → ℕ → ℕ → ℕ → ℕ
value_in half first second n = pick (ltb n half) (first + n) (second + n)

-- the values of the keys' places 0 to 31 and of the labels' places 0 to 15
unfoldable pub key_value : ℕ → ℕ
key_value n = pick (ltb n 16) (0x40 + n) (0x50 + n)

unfoldable pub label_value : ℕ → ℕ
label_value n = pick (ltb n 8) (0x30 + n) (0x48 + n)

abbrev pub keys_bytes : ℕ → List (Text 8) → List ℕ
keys_bytes = texts_bytes 0x7f key_value

abbrev pub labels_bytes : ℕ → List (Text 8) → List ℕ
labels_bytes = texts_bytes 0x0d label_value

-- stops beyond column 80 are no part of it
unfoldable pub setup_bytes : Setup → List ℕ
setup_bytes u =
    stop_bytes 0 (take addressed u.tabs) ++ (feature_bytes (by_code u.features) ++ (attribute_bytes 0x30 u.attributes
    ++ (keys_bytes 0 u.keys ++ labels_bytes 0 u.labels)))

-- 480 + 15 + 16 + 384 + 192
abbrev pub longest : ℕ
longest = 1087
