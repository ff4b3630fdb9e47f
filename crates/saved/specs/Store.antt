-- The store (document 02, A10): the number saved last, and eight places, each a length, a set-up and zeros.
use Rattle.std.specs.Prelude.{◌≡◌, Bool, true, List, [], ◌∷◌, ◌++◌, ℕ, zero, suc, ◌+◌, ◌-◌, ◌*◌}
use Rattle.std.specs.Prelude.{◌/◌, ◌%◌, ◌<◌, leb, ltb, eqb, length, get_or, take, drop, set, replicate}
use Rattle.rules.specs.declared.State.{State}
use Rattle.rules.specs.declared.Personality.TheVariants as Personality
use Rattle.rules.specs.Cell.{pick, both, same}
use Rattle.rules.specs.State.{padded}
use Rattle.rules.specs.Possible.{possible}
use Rattle.saved.specs.SetupBytes.{setup_bytes, longest}
use Rattle.saved.specs.Settings.{fed, Shaped}

abbrev pub place_size : ℕ
place_size = 1089

abbrev pub store_size : ℕ
store_size = 8714

-- a number in two bytes, low first; and the number at i
abbrev pub two_bytes : ℕ → List ℕ
two_bytes n = n % 256 ∷ n / 256 ∷ []

abbrev pub two_at : List ℕ → ℕ → ℕ
two_at l i = get_or l i 0 + 256 * get_or l (i + 1) 0

-- a place that holds a set-up
unfoldable pub place : List ℕ → List ℕ
place bytes = two_bytes (length bytes) ++ padded longest bytes

-- the number saved last, 0 where none was, and the places
abbrev pub last_number : List ℕ → ℕ
last_number store = two_at store 0

unfoldable pub cut : ℕ → List ℕ → List (List ℕ)
cut zero l = []
cut (suc k) l = take place_size l ∷ cut k (drop place_size l)

abbrev pub places : List ℕ → List (List ℕ)
places store = cut 8 (drop 2 store)

-- the store of a last number and places
unfoldable pub joined : List (List ℕ) → List ℕ
joined [] = []
joined (p ∷ l) = p ++ joined l

unfoldable pub laid : ℕ → List (List ℕ) → List ℕ
laid n l = two_bytes n ++ joined l

-- the place of number n
abbrev pub place_of : ℕ → ℕ
place_of n = (n - 1) % 8

-- the set-up in a place, and that of number n
abbrev pub setup_in : List ℕ → List ℕ
setup_in p = take (two_at p 0) (drop 2 p)

abbrev pub setup_of : List ℕ → ℕ → List ℕ
setup_of store n = setup_in (get_or (places store) (place_of n) [])

-- the store after a save: the next number, in its place
unfoldable pub after_save : List ℕ → List ℕ → List ℕ
after_save bytes store = let n = last_number store + 1 in laid n (set (places store) (place_of n) (place bytes))

-- ---- the stores that saves leave

-- numbers end with 65,535
abbrev pub last_of_all : ℕ
last_of_all = 65535

-- so many saves of possible states lead from one store to another
pub data Saves (first : List ℕ) : ℕ → List ℕ → Type 0 where
  none : Saves first 0 first
  save : {n : ℕ} {store : List ℕ} (s : State) → Shaped s.setup → possible s ≡ true → last_number store < last_of_all → Saves first n store
      → Saves first (suc n) (after_save (setup_bytes s.setup) store)

-- some saves from the store of zeros leave the store
pub record Leaves (store : List ℕ) : Type 0 where
  pub count : ℕ
  pub saves : Saves (replicate store_size 0) count store

-- ---- the test of it

unfoldable pub all_zero : List ℕ → Bool
all_zero [] = true
all_zero (b ∷ l) = both (eqb b 0) (all_zero l)

-- the bytes are those of the set-up that they give a power-on terminal. Either personality would do: the bytes mean the same to both
unfoldable pub is_setup : List ℕ → Bool
is_setup bytes = same bytes (setup_bytes (fed Personality.Wy50 bytes))

-- a length, a set-up, zeros
unfoldable pub is_place : List ℕ → Bool
is_place p = both (leb (two_at p 0) longest) (both (all_zero (drop (two_at p 0) (drop 2 p))) (is_setup (setup_in p)))

-- the places of numbers up to n hold a set-up, the others zeros; k is the place of the list's first
unfoldable pub places_ok : ℕ → ℕ → List (List ℕ) → Bool
places_ok n k [] = true
places_ok n k (p ∷ l) = both (pick (ltb k n) (is_place p) (all_zero p)) (places_ok n (suc k) l)

unfoldable pub is_store : List ℕ → Bool
is_store store = both (eqb (length store) store_size) (places_ok (last_number store) 0 (places store))
