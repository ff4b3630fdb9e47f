-- The walk over a text without its trailing spaces is its count.
--     strip_to, strip_none, strip_steps      the last byte that is kept, or none, strips a text
--     walk_count                             the count of what remains when marks are cut out
--     remaining_all                          nothing is cut out
-- Assumes nothing.
use mathlib.Core.Path.{◌≡◌, refl, sym, ap, ◌∙◌}
use mathlib.Core.Bool.{Bool, true, false, not}
use mathlib.Core.List.{List, [], ◌∷◌, ◌++◌}
use mathlib.Core.Logic.{◌⊎◌, inl, inr}
use Prim.Native.Nat.{ℕ, zero, suc, ◌+◌, ◌-◌, ◌≤◌, ◌<◌}
use native.Mathlib.Nat.{zero-add, add-zero}
use native.Mathlib.Omega.{arith}
use lib.Dec.{leb, ltb, eqb, leb-suc-suc}
use lib.ListN.{length, get_or, take}
use lib.Seq.{take-suc, take-length}
use native.Mathlib.Numerals.{add-one}
use borrow.Author.Tests.{lt-ltb, le-leb, lt-leb, ne_eqb, leb-true, leb-false, eqb-true, eqb-false}
use Rattle.rules.specs.Cell.{pick, either}
use Rattle.std.specs.Prelude.{Err}
use Rattle.counter.specs.declared.Refusal.{Refusal}
use Rattle.counter.specs.declared.text.Tally.{Tally}
use Rattle.counter.specs.Alphabet.{space, in_alphabet, cost, units, first_outside}
use Rattle.rules.specs.Fields.{kept, trimmed}
use Rattle.counter.specs.Parts.{alone, of_several, filling, parts}
use Rattle.counter.specs.Count.{Counted, of_units, largest, capped, sized, text_count}
use Rattle.counter.specs.Walk.{no_tally, tallied, tally_parts, cuts, remaining, refuses, advanced, walked, drops, onto_stripped, stripped}
use Rattle.counter.proofs.Fewest.{opened, filling_length}

-- ---- stripping, from the end

onto_some : (cut : Bool) (x b : ℕ) (l : List ℕ) → onto_stripped cut x (l ++ b ∷ []) ≡ x ∷ (l ++ b ∷ [])
unfolding onto_stripped
onto_some cut x b [] = refl
onto_some cut x b (y ∷ l) = refl

-- a last byte that is kept keeps all
stripped_keep : (cut : Bool) (b : ℕ) → drops cut b ≡ false → (l : List ℕ) → stripped cut (l ++ b ∷ []) ≡ l ++ b ∷ []
unfolding stripped onto_stripped
stripped_keep cut b e [] = rw e
stripped_keep cut b e (x ∷ l) = ap (onto_stripped cut x) (stripped_keep cut b e l) ∙ onto_some cut x b l

stripped_drop : (cut : Bool) (b : ℕ) → drops cut b ≡ true → (l : List ℕ) → stripped cut (l ++ b ∷ []) ≡ stripped cut l
unfolding stripped onto_stripped
stripped_drop cut b e [] = rw e
stripped_drop cut b e (x ∷ l) = ap (onto_stripped cut x) (stripped_drop cut b e l)

module _ (cut : Bool) (l : List ℕ) (n : ℕ) (h : n < length l) where
  strip_keep : drops cut (get_or l n 0) ≡ false → take (suc n) l ≡ stripped cut (take (suc n) l)
  strip_keep e = rw (take-suc l n 0 h) (sym (stripped_keep cut (get_or l n 0) e (take n l)))

  strip_drop : drops cut (get_or l n 0) ≡ true → stripped cut (take n l) ≡ stripped cut (take (suc n) l)
  strip_drop e = rw (take-suc l n 0 h) (sym (stripped_drop cut (get_or l n 0) e (take n l)))

-- all that stands behind is dropped
strip_behind : (cut : Bool) (l : List ℕ) (m n : ℕ) → n + m ≡ length l → ((k : ℕ) → n ≤ k → k < length l → drops cut (get_or l k 0) ≡ true)
    → stripped cut (take n l) ≡ stripped cut l
strip_behind cut l zero n e h = let z : n ≡ length l = omega arith in rw (z, take-length l)
strip_behind cut l (suc m) n e h =
    strip_drop cut l n (omega arith) (h n (omega arith) (omega arith)) ∙ strip_behind cut l m (suc n) (omega arith) (λ k a b. h k (omega arith) b)

pub strip_to : (cut : Bool) (l : List ℕ) (i : ℕ) → i < length l → drops cut (get_or l i 0) ≡ false
    → ((k : ℕ) → i < k → k < length l → drops cut (get_or l k 0) ≡ true) → take (i + 1) l ≡ stripped cut l
strip_to cut l i b e h =
    rw add-one (strip_keep cut l i b e ∙ strip_behind cut l (length l - suc i) (suc i) (omega arith) (λ k a b. h k (omega arith) b))

pub strip_none : (cut : Bool) (l : List ℕ) → ((k : ℕ) → k < length l → drops cut (get_or l k 0) ≡ true) → [] ≡ stripped cut l
unfolding stripped
strip_none cut l h = strip_behind cut l (length l) 0 (omega arith) (λ k a b. h k b)

pub ruleset strip_steps = (strip_to, strip_none)

-- ---- what remains of a stripped text has no trailing spaces

module _ (cut : Bool) where
  -- a stripped text is empty, or ends in a byte that remains
  abbrev Ends : List ℕ → Type 0
  Ends l = (l ≡ []) ⊎ (1 ≤ length (remaining cut l))

  some_remain : (b : ℕ) (l : List ℕ) (s : Bool) → 1 ≤ length (remaining cut l) → 1 ≤ length (pick s (remaining cut l) (b ∷ remaining cut l))
  some_remain b l true h = h
  some_remain b l false h = omega arith

  ends_next : (b : ℕ) (l : List ℕ) → Ends l → Ends (onto_stripped cut b l)
  unfolding onto_stripped remaining drops
  ends_next b [] x = by_tests (eqb b space) (cuts cut b) refl
    where
      by_tests : (s t : Bool) → cuts cut b ≡ t → Ends (pick (either s t) [] (b ∷ []))
      by_tests true t e = inl refl
      by_tests false true e = inl refl
      by_tests false false e = inr (rw e (omega arith))
  ends_next b (x ∷ l) (inl e) = absurd (omega (arith, ap length e))
  ends_next b (x ∷ l) (inr h) = inr (some_remain b (x ∷ l) (cuts cut b) h)

  ends : (l : List ℕ) → Ends (stripped cut l)
  unfolding stripped
  ends [] = inl refl
  ends (b ∷ l) = ends_next b (stripped cut l) (ends l)

  kept_some : (b : ℕ) (l : List ℕ) → 1 ≤ length l → kept b l ≡ b ∷ l
  unfolding kept
  kept_some b [] h = absurd (omega arith)
  kept_some b (x ∷ l) h = refl

  strip_next : (b : ℕ) (m l : List ℕ) → Ends m → remaining cut m ≡ trimmed (remaining cut l)
      → remaining cut (onto_stripped cut b m) ≡ trimmed (remaining cut (b ∷ l))
  unfolding onto_stripped remaining drops trimmed kept
  strip_next b [] l x e = by_tests (eqb b space) (cuts cut b) refl refl
    where
      by_tests : (s t : Bool) → eqb b space ≡ s → cuts cut b ≡ t
          → remaining cut (pick (either s t) [] (b ∷ [])) ≡ trimmed (pick t (remaining cut l) (b ∷ remaining cut l))
      by_tests true true f g = e
      by_tests false true f g = e
      by_tests true false f g = rw (← e, f)
      by_tests false false f g = rw (g, ← e, f)
  strip_next b (x ∷ m) l (inl f) e = absurd (omega (arith, ap length f))
  strip_next b (x ∷ m) l (inr h) e = by_test (cuts cut b) refl
    where
      by_test : (t : Bool) → cuts cut b ≡ t
          → pick t (remaining cut (x ∷ m)) (b ∷ remaining cut (x ∷ m)) ≡ trimmed (pick t (remaining cut l) (b ∷ remaining cut l))
      by_test true g = e
      by_test false g = sym (kept_some b (remaining cut (x ∷ m)) h) ∙ ap (kept b) e

  strip_trims : (l : List ℕ) → remaining cut (stripped cut l) ≡ trimmed (remaining cut l)
  unfolding stripped remaining trimmed
  strip_trims [] = refl
  strip_trims (b ∷ l) = strip_next b (stripped cut l) l (ends l) (strip_trims l)

-- ---- the walk over what remains

verdict : Tally → List ℕ → Counted
verdict t [] = of_units t.units (tally_parts t)
verdict t (b ∷ l) = pick (in_alphabet b) (verdict (tallied t (cost b)) l) (Err (Refusal.BadByte t.place))

walk_next : (cut : Bool) (b : ℕ) (l : List ℕ) (t : Tally) → ((t : Tally) → walked cut t l ≡ verdict t (remaining cut l)) → (s : Bool) → cuts cut b ≡ s
    → walked cut t (b ∷ l) ≡ verdict t (remaining cut (b ∷ l))
unfolding walked remaining refuses advanced verdict
walk_next cut b l t h true e = rw e (h t)
walk_next cut b l t h false e = rw e (by_letter (in_alphabet b))
  where
    by_letter : (a : Bool)
        → pick (not a) (Err (Refusal.BadByte t.place)) (walked cut (tallied t (cost b)) l)
        ≡ pick a (verdict (tallied t (cost b)) (remaining cut l)) (Err (Refusal.BadByte t.place))
    by_letter true = h (tallied t (cost b))
    by_letter false = refl

walk_verdict : (cut : Bool) (l : List ℕ) (t : Tally) → walked cut t l ≡ verdict t (remaining cut l)
unfolding walked remaining verdict
walk_verdict cut [] t = refl
walk_verdict cut (b ∷ l) t = walk_next cut b l t (walk_verdict cut l) (cuts cut b) refl

-- ---- a verdict is the first byte outside the alphabet, or what is tallied

unfoldable tally_of : Tally → List ℕ → Tally
tally_of t [] = t
tally_of t (b ∷ l) = tally_of (tallied t (cost b)) l

told : Tally → List ℕ → Counted
told t l =
    pick (ltb (first_outside l) (length l)) (Err (Refusal.BadByte (t.place + first_outside l)))
    (of_units (tally_of t l).units (tally_parts (tally_of t l)))

verdict_next : (t : Tally) (b : ℕ) (l : List ℕ) → verdict (tallied t (cost b)) l ≡ told (tallied t (cost b)) l
    → (a : Bool) → in_alphabet b ≡ a → verdict t (b ∷ l) ≡ told t (b ∷ l)
unfolding verdict told first_outside tally_of tallied
verdict_next t b l h true e =
    let p : t.place + suc (first_outside l) ≡ t.place + 1 + first_outside l = omega arith in
    let q : ltb (suc (first_outside l)) (suc (length l)) ≡ ltb (first_outside l) (length l) = leb-suc-suc (suc (first_outside l)) (length l) in
    rw (e, p, q) h
verdict_next t b l h false e = rw (e, add-zero t.place, lt-ltb 0 (suc (length l)) (omega arith))

verdict_told : (l : List ℕ) (t : Tally) → verdict t l ≡ told t l
unfolding verdict told first_outside tally_of
verdict_told [] t = refl
verdict_told (b ∷ l) t = verdict_next t b l (verdict_told l (tallied t (cost b))) (in_alphabet b) refl

-- ---- a tally has the units and parts of its text

opened_next : (t : Tally) (n : ℕ) (l : List ℕ) (s : Bool)
    → pick s t.parts (t.parts + 1) + opened (pick s (t.held + n) n) l ≡ t.parts + pick s (opened (t.held + n) l) (suc (opened n l))
opened_next t n l true = refl
opened_next t n l false = omega arith

tally_opened : (l : List ℕ) (t : Tally) → (tally_of t l).parts ≡ t.parts + opened t.held l
unfolding tally_of tallied opened
tally_opened [] t = omega arith
tally_opened (b ∷ l) t = tally_opened l (tallied t (cost b)) ∙ opened_next t (cost b) l (leb (t.held + cost b) of_several)

pub capped_small : (n : ℕ) → n ≤ largest → capped n ≡ n
unfolding capped
capped_small n h = rw (le-leb n largest h)

pub capped_large : (n : ℕ) → largest < n → capped n ≡ largest
unfolding capped
capped_large n h = rw (lt-leb n largest h)

capped_add : (u n : ℕ) (s : Bool) → leb u largest ≡ s → capped (capped u + n) ≡ capped (u + n)
capped_add u n true e = let h : u ≤ largest = leb-true _ _ e in rw (capped_small u h)
capped_add u n false e =
    let h : largest < u = leb-false _ _ e in
    rw (capped_large u h, capped_large (u + n) (omega arith)) (by_test (eqb n 0) refl)
  where
    by_test : (t : Bool) → eqb n 0 ≡ t → capped (largest + n) ≡ largest
    by_test true f = let z = eqb-true n 0 f in let y : largest + n ≡ largest = omega arith in rw y (capped_small largest (omega arith))
    by_test false f = let z = eqb-false n 0 f in capped_large (largest + n) (omega arith)

tally_units : (l : List ℕ) (t : Tally) (v : ℕ) → t.units ≡ capped v → (tally_of t l).units ≡ capped (v + units l)
unfolding tally_of units tallied
tally_units [] t v e = let z : v + 0 ≡ v = omega arith in rw z e
tally_units (b ∷ l) t v e =
    let z : v + (cost b + units l) ≡ v + cost b + units l = omega arith in
    rw z (tally_units l (tallied t (cost b)) (v + cost b) (rw e (capped_add v (cost b) (leb v largest) refl)))

capped_parts : (u n : ℕ) (s : Bool) → leb u largest ≡ s
    → pick (eqb (capped u) 0) 0 (pick (leb (capped u) alone) 1 n) ≡ pick (eqb u 0) 0 (pick (leb u alone) 1 n)
capped_parts u n true e = let h : u ≤ largest = leb-true _ _ e in rw (capped_small u h)
capped_parts u n false e =
    let h : largest < u = leb-false _ _ e in
    rw (capped_large u h, ne_eqb u 0 (λ e. omega arith), lt-leb u alone (omega arith))

tally_parts_lem : (l : List ℕ) → tally_parts (tally_of no_tally l) ≡ parts l
unfolding tally_parts parts
tally_parts_lem l =
    let p : (tally_of no_tally l).parts ≡ length (filling 0 l) = tally_opened l no_tally ∙ zero-add _ ∙ sym (filling_length l) in
    let u : (tally_of no_tally l).units ≡ capped (units l) = rw zero-add at (tally_units l no_tally 0 (sym (capped_small 0 (omega arith)))) in
    rw (p, u) (capped_parts (units l) _ (leb (units l) largest) refl)

start_told : (l : List ℕ) → told no_tally l ≡ sized l
unfolding told sized
start_told l =
    let u : (tally_of no_tally l).units ≡ capped (units l) = rw zero-add at (tally_units l no_tally 0 (sym (capped_small 0 (omega arith)))) in
    rw (zero-add, tally_parts_lem, u)

-- ---- the count

pub walk_count : (cut : Bool) (l : List ℕ) {k : List ℕ} → k ≡ stripped cut l → walked cut no_tally k ≡ text_count (remaining cut l)
unfolding text_count
walk_count cut l e =
    walk_verdict cut _ no_tally ∙ (verdict_told _ no_tally ∙ (start_told _ ∙ ap sized (ap (remaining cut) e ∙ strip_trims cut l)))

pub remaining_all : (l : List ℕ) → remaining false l ≡ l
unfolding remaining cuts
remaining_all [] = refl
remaining_all (b ∷ l) = ap (λ (t : List ℕ). b ∷ t) (remaining_all l)
