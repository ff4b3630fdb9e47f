-- Laws of the bytes gathered, as they go back to C.
--     laid_none, laid_length, byte_at     where none is counted; how many they are, and each of them
--     laid_possible     a possible sequence stays possible
--     laid_back     what is left alone comes back as it came
--     back_zeros     zeros behind them stay
-- Assumes nothing.
use mathlib.Core.Path.{◌≡◌, refl, sym, ap, ◌∙◌}
use mathlib.Core.Bool.{Bool, true, false}
use mathlib.Core.List.{List, [], ◌∷◌, map}
use Prim.Native.Nat.{ℕ, zero, suc, ◌≤◌, ◌<◌}
use native.Mathlib.Omega.{arith}
use lib.Dec.{ltb}
use lib.ListN.{length, get_or, take, drop}
use borrow.Author.Tests.{ltb-true, ltb-false}
use Rattle.rules.specs.Cell.{pick}
use Rattle.rules.specs.declared.Slot.TheVariants as Slot
use Rattle.rules.specs.declared.Pending.{Pending}
use Rattle.rules.specs.Slot.{text_ok}
use Rattle.rules.specs.Possible.{pending_ok}
use Rattle.state.proofs.Tests.{both_right}
use Rattle.wy50.specs.Raw.{all_below, sequence_of, gathered_in, blanked, laid_over}

pub map_same : (l : List ℕ) → map (λ (b : ℕ). b) l ≡ l
map_same [] = refl
map_same (b ∷ l) = ap (λ (t : List ℕ). b ∷ t) (map_same l)

-- ---- zeros in place of the first m

blank_length : (m : ℕ) (h : List ℕ) → length (blanked m h) ≡ length h
unfolding blanked
blank_length zero h = refl
blank_length (suc m) [] = refl
blank_length (suc m) (b ∷ h) = ap suc (blank_length m h)

blank_front : (m : ℕ) (h : List ℕ) (i : ℕ) → i < m → get_or (blanked m h) i 0 ≡ 0
unfolding blanked
blank_front zero h i k = absurd (omega arith)
blank_front (suc m) [] i k = refl
blank_front (suc m) (b ∷ h) zero k = refl
blank_front (suc m) (b ∷ h) (suc i) k = blank_front m h i (omega arith)

blank_behind : (m : ℕ) (h : List ℕ) (i : ℕ) → m ≤ i → get_or (blanked m h) i 0 ≡ get_or h i 0
unfolding blanked
blank_behind zero h i k = refl
blank_behind (suc m) [] i k = refl
blank_behind (suc m) (b ∷ h) zero k = absurd (omega arith)
blank_behind (suc m) (b ∷ h) (suc i) k = blank_behind m h i (omega arith)

-- ---- the first n bytes before others

laid_size : (n : ℕ) (g h : List ℕ) → length g ≡ length h → length (laid_over n g h) ≡ length h
unfolding laid_over
laid_size zero g h e = refl
laid_size (suc n) [] h e = e
laid_size (suc n) (b ∷ g) [] e = absurd (omega (arith, e))
laid_size (suc n) (b ∷ g) (c ∷ h) e = ap suc (laid_size n g h (omega (arith, e)))

laid_front : (n : ℕ) (g h : List ℕ) (i : ℕ) → i < n → get_or (laid_over n g h) i 0 ≡ get_or g i 0
unfolding laid_over
laid_front zero g h i k = absurd (omega arith)
laid_front (suc n) [] h i k = refl
laid_front (suc n) (b ∷ g) [] zero k = refl
laid_front (suc n) (b ∷ g) [] (suc i) k = laid_front n g [] i (omega arith)
laid_front (suc n) (b ∷ g) (c ∷ h) zero k = refl
laid_front (suc n) (b ∷ g) (c ∷ h) (suc i) k = laid_front n g h i (omega arith)

laid_behind : (n : ℕ) (g h : List ℕ) (i : ℕ) → length g ≡ length h → n ≤ i → get_or (laid_over n g h) i 0 ≡ get_or h i 0
unfolding laid_over
laid_behind zero g h i e k = refl
laid_behind (suc n) [] [] i e k = refl
laid_behind (suc n) [] (c ∷ h) i e k = absurd (omega (arith, e))
laid_behind (suc n) (b ∷ g) [] i e k = absurd (omega (arith, e))
laid_behind (suc n) (b ∷ g) (c ∷ h) zero e k = absurd (omega arith)
laid_behind (suc n) (b ∷ g) (c ∷ h) (suc i) e k = laid_behind n g h i (omega (arith, e)) (omega arith)

laid_take : (n : ℕ) (g h : List ℕ) → take n (laid_over n g h) ≡ take n g
unfolding laid_over
laid_take zero g h = refl
laid_take (suc n) [] h = refl
laid_take (suc n) (b ∷ g) [] = ap (λ (t : List ℕ). b ∷ t) (laid_take n g [])
laid_take (suc n) (b ∷ g) (c ∷ h) = ap (λ (t : List ℕ). b ∷ t) (laid_take n g h)

-- ---- both

module _ (n m : ℕ) (g h : List ℕ) (e : length g ≡ length h) where
  alike : length g ≡ length (blanked m h)
  alike = e ∙ sym (blank_length m h)

  pub laid_length : length (laid_over n g (blanked m h)) ≡ length h
  laid_length = laid_size n g (blanked m h) alike ∙ blank_length m h

  pub byte_at : (i : ℕ) → pick (ltb i n) (get_or g i 0) (pick (ltb i m) 0 (get_or h i 0)) ≡ get_or (laid_over n g (blanked m h)) i 0
  byte_at i = by (ltb i n) refl (ltb i m) refl
    where
      by : (t : Bool) → ltb i n ≡ t → (u : Bool) → ltb i m ≡ u → pick t (get_or g i 0) (pick u 0 (get_or h i 0)) ≡ get_or (laid_over n g (blanked m h)) i 0
      by true k u j = sym (laid_front n g (blanked m h) i (ltb-true i n k))
      by false k true j = sym (laid_behind n g (blanked m h) i alike (ltb-false i n k) ∙ blank_front m h i (ltb-true i m j))
      by false k false j = sym (laid_behind n g (blanked m h) i alike (ltb-false i n k) ∙ blank_behind m h i (ltb-false i m j))

pub laid_none : {n m : ℕ} (g h : List ℕ) → n ≡ 0 → m ≡ 0 → h ≡ laid_over n g (blanked m h)
unfolding laid_over blanked
laid_none g h e f = rw (e, f)

pub laid_back : (n : ℕ) (g : List ℕ) → laid_over n g (blanked n g) ≡ g
unfolding laid_over blanked
laid_back zero g = refl
laid_back (suc n) [] = refl
laid_back (suc n) (b ∷ g) = ap (λ (t : List ℕ). b ∷ t) (laid_back n g)

pub laid_possible : (q : Pending) (g h : List ℕ) → pending_ok q g ≡ true → pending_ok q (laid_over (gathered_in (sequence_of q)) g h) ≡ true
unfolding pending_ok text_ok
laid_possible Pending.Idle g h k = k
laid_possible Pending.Escape g h k = k
laid_possible (Pending.Awaits a) g h k = k
laid_possible (Pending.AddressRow r) g h k = k
laid_possible (Pending.SegmentNumber n) g h k = k
laid_possible (Pending.SegmentRow n r) g h k = k
laid_possible (Pending.DecimalRow n row) g h k = k
laid_possible (Pending.DecimalColumn row n column) g h k = k
laid_possible (Pending.FieldNumber n) g h k = k
laid_possible (Pending.Text (Slot.Key v) n) g h k = rw (laid_take n g h) k
laid_possible (Pending.Text (Slot.Label v) n) g h k = rw (laid_take n g h) k
laid_possible (Pending.Text Slot.Message n) g h k = rw (laid_take n g h) k
laid_possible (Pending.Spoilt x) g h k = k

-- ---- zeros stay zeros

blank_zeros : (m : ℕ) (h : List ℕ) → all_below 1 (drop m h) ≡ true → all_below 1 (blanked m h) ≡ true
unfolding blanked all_below
blank_zeros zero h k = k
blank_zeros (suc m) [] k = refl
blank_zeros (suc m) (b ∷ h) k = blank_zeros m h k

tail_zeros : (c : ℕ) (h : List ℕ) → all_below 1 (c ∷ h) ≡ true → all_below 1 h ≡ true
unfolding all_below
tail_zeros c h k = both_right (ltb c 1) (all_below 1 h) k

laid_zeros : (n : ℕ) (g h : List ℕ) → all_below 1 h ≡ true → all_below 1 (drop n (laid_over n g h)) ≡ true
unfolding laid_over all_below
laid_zeros zero g h k = k
laid_zeros (suc n) [] h k = refl
laid_zeros (suc n) (b ∷ g) [] k = laid_zeros n g [] k
laid_zeros (suc n) (b ∷ g) (c ∷ h) k = laid_zeros n g h (tail_zeros c h k)

pub back_zeros : (n m : ℕ) (g h : List ℕ) → all_below 1 (drop m h) ≡ true → all_below 1 (drop n (laid_over n g (blanked m h))) ≡ true
back_zeros n m g h k = laid_zeros n g (blanked m h) (blank_zeros m h k)
