-- Laws of a text: the bytes that go for some cells, without trailing spaces, put into a room.
--     text_keep, text_drop, text_none     one turn of the loop that goes back over trailing spaces
--     text_size                           a byte for each cell
--     over_none, over_next                one turn of the loop that puts them into the room
-- Assumes nothing.
use mathlib.Core.Path.{◌≡◌, refl, sym, ap, ◌∙◌}
use mathlib.Core.List.{List, [], ◌∷◌, ◌++◌, map, map-append}
use Prim.Native.Nat.{ℕ, suc, ◌+◌, ◌-◌, ◌≤◌, ◌<◌}
use native.Mathlib.Nat.{le_of_suc-le-suc, not-suc-le-zero}
use native.Mathlib.Numerals.{add-one}
use native.Mathlib.Omega.{arith}
use lib.ListN.{length, get_or, set, take, drop, length-map}
use lib.Seq.{slice, slice_empty, length-slice, take-suc, drop-append-le, length-take-le}
use borrow.Author.Tests.{eq-eqb, ne_eqb}
use Rattle.rules.specs.Cell.{sent}
use Rattle.rules.specs.Room.{over}
use Rattle.rules.specs.Fields.{kept, trimmed}

kept_some : (x b : ℕ) (l : List ℕ) → kept x (l ++ b ∷ []) ≡ x ∷ l ++ b ∷ []
unfolding kept
kept_some x b [] = refl
kept_some x b (y ∷ l) = refl

-- a last byte that is no space keeps all; a space goes
trim_keep : (b : ℕ) → (b ≡ 0x20 → ⊥) → (l : List ℕ) → trimmed (l ++ b ∷ []) ≡ l ++ b ∷ []
unfolding trimmed kept
trim_keep b h [] = rw (ne_eqb b 0x20 h)
trim_keep b h (x ∷ l) = ap (kept x) (trim_keep b h l) ∙ kept_some x b l

trim_drop : (b : ℕ) → b ≡ 0x20 → (l : List ℕ) → trimmed (l ++ b ∷ []) ≡ trimmed l
unfolding trimmed kept
trim_drop b e [] = rw (eq-eqb b 0x20 e)
trim_drop b e (x ∷ l) = ap (kept x) (trim_drop b e l)

-- the bytes of one cell more
pub text_next : (a i : ℕ) (p : List ℕ) → a ≤ i → i < length p → map sent (slice a (i + 1) p) ≡ map sent (slice a i p) ++ sent (get_or p i 0) ∷ []
text_next a i p h k =
    let n : length (take i p) ≡ i = length-take-le i p (omega arith) in
    let cut : slice a (i + 1) p ≡ slice a i p ++ get_or p i 0 ∷ [] =
    rw (add-one i) (ap (drop a) (take-suc p i 0 k) ∙ drop-append-le a (take i p) (get_or p i 0 ∷ []) (omega arith)) in
    ap (map sent) cut ∙ map-append sent (slice a i p) (get_or p i 0 ∷ [])

module _ (a e : ℕ) (p : List ℕ) (h : a < e) (k : e ≤ length p) {b : ℕ} (s : b ≡ sent (get_or p (e - 1) 0)) where
  last : map sent (slice a e p) ≡ map sent (slice a (e - 1) p) ++ b ∷ []
  last =
      let n : e - 1 + 1 ≡ e = omega arith in
      rw (n, ← s) at (text_next a (e - 1) p (omega arith) (omega arith))

  pub text_keep : (b ≡ 0x20 → ⊥) → map sent (slice a e p) ≡ trimmed (map sent (slice a e p))
  text_keep d = rw last (sym (trim_keep b d (map sent (slice a (e - 1) p))))

  pub text_drop : b ≡ 0x20 → trimmed (map sent (slice a (e - 1) p)) ≡ trimmed (map sent (slice a e p))
  text_drop d = sym (ap trimmed last ∙ trim_drop b d (map sent (slice a (e - 1) p)))

pub text_none : (a e : ℕ) (p : List ℕ) → e ≡ a → map sent (slice a e p) ≡ trimmed (map sent (slice a e p))
unfolding trimmed
text_none a e p z = rw (z, slice_empty a p)

pub text_size : (a e : ℕ) (p : List ℕ) → e ≤ length p → length (map sent (slice a e p)) ≡ e - a
text_size a e p k = length-map (slice a e p) sent ∙ length-slice a e p k

-- ---- the room

pub over_none : (a : ℕ) (p w : List ℕ) → w ≡ over (map sent (slice a a p)) w
unfolding over
over_none a p w = rw (slice_empty a p)

over_set : (t w : List ℕ) (b : ℕ) → length t < length w → set (over t w) (length t) b ≡ over (t ++ b ∷ []) w
unfolding over
over_set [] [] b h = absurd (not-suc-le-zero h)
over_set [] (y ∷ w) b h = refl
over_set (x ∷ t) [] b h = absurd (not-suc-le-zero h)
over_set (x ∷ t) (y ∷ w) b h = ap {B = List ℕ} (λ l. x ∷ l) (over_set t w b (le_of_suc-le-suc h))

pub over_next : (a i : ℕ) (p w : List ℕ) {b : ℕ} → a ≤ i → i < length p → i - a < length w → b ≡ sent (get_or p i 0)
    → set (over (map sent (slice a i p)) w) (i - a) b ≡ over (map sent (slice a (i + 1) p)) w
over_next a i p w {b} h k f s =
    let n = text_size a i p (omega arith) in
    rw (text_next a i p h k, ← s, ← n) (over_set (map sent (slice a i p)) w b (rw n f))

pub length_over : (t w : List ℕ) → length t ≤ length w → length (over t w) ≡ length w
unfolding over
length_over [] w h = refl
length_over (x ∷ t) [] h = absurd (not-suc-le-zero h)
length_over (x ∷ t) (y ∷ w) h = ap suc (length_over t w (le_of_suc-le-suc h))
