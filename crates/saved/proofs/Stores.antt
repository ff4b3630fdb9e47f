-- Which stores saves leave.
--     after_laid      a save, place by place
--     leaves_is, is_leaves     the test decides
-- Assumes nothing.
use mathlib.Core.Path.{◌≡◌, refl, sym, ap, ap₂, subst, ◌∙◌}
use mathlib.Core.Bool.{true, false}
use mathlib.Core.Logic.{◌⊎◌, inl, inr}
use mathlib.Core.List.{List, [], ◌∷◌, ◌++◌}
use Prim.Native.Nat.{ℕ, zero, suc, ◌+◌, ◌-◌, ◌*◌, ◌%◌, ◌<◌, ◌≤◌}
use native.Mathlib.Numerals.{add-one}
use native.Mathlib.Omega.{arith}
use lib.Dec.{ltb, eqb}
use lib.Seq.{set-get_or, set-set, get_or-drop}
use lib.ListN.{length, get_or, drop, set, replicate, length-set, length-drop, replicate-append-replicate}
use borrow.Author.Tests.{lt-ltb, le-ltb, ltb-true, ltb-false, eqb-true, eq-eqb}
use Rattle.rules.specs.Cell.{pick}
use Rattle.rules.proofs.Tests.{both_parts, both_true, either_way}
use Rattle.saved.specs.SetupBytes.{setup_bytes}
use Rattle.saved.specs.Store.{place_size, store_size, place, last_number, places, joined, laid, setup_in, after_save, last_of_all, Saves, none, save}
use Rattle.saved.specs.Store.{Leaves, all_zero, is_setup, is_place, places_ok, is_store}
use Rattle.saved.proofs.Setups.{setup_short, possible_fine, fine_is, is_saved}
use Rattle.saved.proofs.Places.{zeros_zero, zero_zeros, empty, Sound, place_sound, empty_sound, Holds, is_place_lem, place_is, All, all_set}
use Rattle.saved.proofs.Places.{all_at, cut_length, cut_all, laid_last, laid_places, laid_length, laid_self}

-- ---- the test of places

-- the place t, of n numbers: used, or not
used_ok : (n t : ℕ) (p : List ℕ) → t < n → is_place p ≡ true → pick (ltb t n) (is_place p) (all_zero p) ≡ true
used_ok n t p h e = rw (lt-ltb t n h) e

unused_ok : (n t : ℕ) (p : List ℕ) → n ≤ t → all_zero p ≡ true → pick (ltb t n) (is_place p) (all_zero p) ≡ true
unused_ok n t p h e = rw (le-ltb t n h) e

-- the test goes by which places are used
ok_same : (n k t : ℕ) (l : List (List ℕ)) → ((i : ℕ) → t ≤ i → i < t + length l → ltb i n ≡ ltb i k) → places_ok n t l ≡ places_ok k t l
unfolding places_ok
ok_same n k t [] h = refl
ok_same n k t (p ∷ l) h = rw (h t (omega arith) (omega arith), ok_same n k (suc t) l (λ i a b. h i (omega arith) (omega arith)))

-- before the place n, and beyond it, n and n + 1 numbers use the same places
same_below : (i n : ℕ) → i < n → ltb i n ≡ ltb i (suc n)
same_below i n h = rw (lt-ltb i n h, lt-ltb i (suc n) (omega arith))

same_above : (i n : ℕ) → n < i → ltb i n ≡ ltb i (suc n)
same_above i n h = rw (le-ltb i n (omega arith), le-ltb i (suc n) (omega arith))

-- a place of a used number
pub ok_at : (n t k : ℕ) (l : List (List ℕ)) → places_ok n t l ≡ true → k < length l → t + k < n → is_place (get_or l k []) ≡ true
unfolding places_ok
ok_at n t k [] e h u = absurd (omega arith)
ok_at n t zero (p ∷ l) e h u =
    let r = both_parts (pick (ltb t n) (is_place p) (all_zero p)) (places_ok n (suc t) l) e in
    rw (lt-ltb t n (omega arith)) at r.0
ok_at n t (suc k) (p ∷ l) e h u =
    let r = both_parts (pick (ltb t n) (is_place p) (all_zero p)) (places_ok n (suc t) l) e in
    ok_at n (suc t) k l r.1 (omega arith) (omega arith)

-- the next number is saved in the place k: the next unused one, or any where all are used
ok_save : (n t k : ℕ) (p : List ℕ) (l : List (List ℕ)) → places_ok n t l ≡ true → is_place p ≡ true → t + k ≤ n → (t + k ≡ n) ⊎ (t + length l ≤ n)
    → places_ok (suc n) t (set l k p) ≡ true
unfolding places_ok
ok_save n t k p [] e h u w = refl
ok_save n t zero p (q ∷ l) e h u w =
    let r = both_parts (pick (ltb t n) (is_place q) (all_zero q)) (places_ok n (suc t) l) e in
    both_true (used_ok (suc n) t p (omega arith) h) (sym (ok_same n (suc n) (suc t) l (by w)) ∙ r.1)
  where
    by : (t + 0 ≡ n) ⊎ (t + suc (length l) ≤ n) → (i : ℕ) → suc t ≤ i → i < suc t + length l → ltb i n ≡ ltb i (suc n)
    by (inl z) i a b = same_above i n (omega arith)
    by (inr z) i a b = same_below i n (omega arith)
ok_save n t (suc k) p (q ∷ l) e h u w =
    let r = both_parts (pick (ltb t n) (is_place q) (all_zero q)) (places_ok n (suc t) l) e in
    let i = rw (lt-ltb t n (omega arith)) at r.0 in
    both_true (used_ok (suc n) t q (omega arith) i) (ok_save n (suc t) k p l r.1 h (omega arith) (by w))
  where
    by : (t + suc k ≡ n) ⊎ (t + suc (length l) ≤ n) → (suc t + k ≡ n) ⊎ (suc t + length l ≤ n)
    by (inl z) = inl (omega arith)
    by (inr z) = inr (omega arith)

-- and before it was
ok_unsaved : (n t k : ℕ) (l : List (List ℕ)) → places_ok (suc n) t l ≡ true → t + k ≡ n → places_ok n t (set l k empty) ≡ true
unfolding places_ok
ok_unsaved n t k [] e u = refl
ok_unsaved n t zero (q ∷ l) e u =
    let r = both_parts (pick (ltb t (suc n)) (is_place q) (all_zero q)) (places_ok (suc n) (suc t) l) e in
    both_true (unused_ok n t empty (omega arith) (zeros_zero place_size))
    (ok_same n (suc n) (suc t) l (λ i a b. same_above i n (omega arith)) ∙ r.1)
ok_unsaved n t (suc k) (q ∷ l) e u =
    let r = both_parts (pick (ltb t (suc n)) (is_place q) (all_zero q)) (places_ok (suc n) (suc t) l) e in
    let i = rw (lt-ltb t (suc n) (omega arith)) at r.0 in
    both_true (used_ok n t q (omega arith) i) (ok_unsaved n (suc t) k l r.1 (omega arith))

-- ---- a store by its places

pub record Stands (store : List ℕ) : Type 0 where
  pub number : ℕ
  pub list : List (List ℕ)
  pub eight : length list ≡ 8
  pub all : All list
  pub ok : places_ok number 0 list ≡ true
  pub is : store ≡ laid number list

pub after_laid : (bytes : List ℕ) (n : ℕ) (l : List (List ℕ)) → length l ≡ 8 → All l
    → after_save bytes (laid n l) ≡ laid (suc n) (set l (n % 8) (place bytes))
unfolding after_save
after_laid bytes n l e a =
    let k : n + 1 - 1 ≡ n = omega arith in
    rw (laid_last n l, laid_places n l e a, k, add-one n)

pub stands_is : (store : List ℕ) → Stands store → is_store store ≡ true
unfolding is_store
stands_is store s =
    let n = s.number in
    let l = s.list in
    rw (s.is, laid_last n l, laid_places n l s.eight s.all)
    (both_true (eq-eqb (length (laid n l)) store_size (laid_length n l s.eight s.all)) s.ok)

-- the places after a save are as they should be
pub after_ok : (bytes : List ℕ) (n : ℕ) (l : List (List ℕ)) → length bytes ≤ 1087 → is_setup bytes ≡ true → length l ≡ 8 → places_ok n 0 l ≡ true
    → places_ok (suc n) 0 (set l (n % 8) (place bytes)) ≡ true
after_ok bytes n l short good eight ok = ok_save n 0 (n % 8) (place bytes) l ok (place_is bytes short good) (omega arith) (by (either_way (ltb n 8)))
  where
    by : (ltb n 8 ≡ true) ⊎ (ltb n 8 ≡ false) → (0 + n % 8 ≡ n) ⊎ (0 + length l ≤ n)
    by (inl e) = let h = ltb-true n 8 e in inl (omega arith)
    by (inr e) = let h = ltb-false n 8 e in inr (omega (arith, eight))

abbrev pub after_stands : (bytes : List ℕ) {store : List ℕ} → length bytes ≤ 1087 → is_setup bytes ≡ true → Stands store
    → Stands (after_save bytes store)
after_stands bytes {store} short good s = record {
  number = suc s.number;
  list = set s.list (s.number % 8) (place bytes);
  eight = length-set s.list (s.number % 8) (place bytes) ∙ s.eight;
  all = all_set (s.number % 8) s.all (place_sound bytes);
  ok = after_ok bytes s.number s.list short good s.eight s.ok;
  is = ap (after_save bytes) s.is ∙ after_laid bytes s.number s.list s.eight s.all;
}

-- ---- the store of zeros

joined_zeros : (k : ℕ) → joined (replicate k empty) ≡ replicate (k * place_size) 0
unfolding joined
joined_zeros zero = refl
joined_zeros (suc k) =
    let e : place_size + k * place_size ≡ suc k * place_size = omega arith in
    ap (λ (z : List ℕ). empty ++ z) (joined_zeros k) ∙ replicate-append-replicate place_size (k * place_size) 0 ∙ ap (λ (n : ℕ). replicate n 0) e

zeros_laid : laid 0 (replicate 8 empty) ≡ replicate store_size 0
unfolding laid
zeros_laid = ap {B = List ℕ} (λ z. 0 ∷ 0 ∷ z) (joined_zeros 8)

all_empty : (k : ℕ) → All (replicate k empty)
all_empty zero = All.none
all_empty (suc k) = All.more empty_sound (all_empty k)

ok_empty : (t k : ℕ) → places_ok 0 t (replicate k empty) ≡ true
unfolding places_ok
ok_empty t zero = refl
ok_empty t (suc k) = both_true (unused_ok 0 t empty (omega arith) (zeros_zero place_size)) (ok_empty (suc t) k)

zeros_stand : Stands (replicate store_size 0)
zeros_stand =
    record { number = 0; list = replicate 8 empty; eight = refl; all = all_empty 8; ok = ok_empty 0 8; is = sym zeros_laid }

unused_empty : (t : ℕ) (l : List (List ℕ)) → All l → places_ok 0 t l ≡ true → l ≡ replicate (length l) empty
unfolding places_ok
unused_empty t [] All.none e = refl
unused_empty t (p ∷ l) (All.more s a) e =
    let r = both_parts (pick (ltb t 0) (is_place p) (all_zero p)) (places_ok 0 (suc t) l) e in
    let z = rw (le-ltb t 0 (omega arith)) at r.0 in
    ap₂ {C = List (List ℕ)} (λ x y. x ∷ y) (zero_zeros p z ∙ ap (λ (n : ℕ). replicate n 0) s.size) (unused_empty (suc t) l a r.1)

-- ---- both ways

saves_stand : {first store : List ℕ} {n : ℕ} → Stands first → Saves first n store → Stands store
saves_stand h none = h
saves_stand h (save s shaped ok less x) =
    let f = possible_fine s shaped ok in
    after_stands (setup_bytes s.setup) (setup_short s.setup f) (fine_is s.setup f) (saves_stand h x)

pub leaves_stand : (store : List ℕ) → Leaves store → Stands store
leaves_stand store h = saves_stand zeros_stand h.saves

pub leaves_is : (store : List ℕ) → Leaves store → is_store store ≡ true
leaves_is store h = stands_is store (leaves_stand store h)

-- the store before its last save, and that save
module _ (n : ℕ) (l : List (List ℕ)) (less : n < last_of_all) (eight : length l ≡ 8) (all : All l) (ok : places_ok (suc n) 0 l ≡ true) where
  abbrev k : ℕ
  k = n % 8

  sound : Sound (get_or l k [])
  sound = all_at k all (omega arith)

  holds : Holds (get_or l k [])
  holds = is_place_lem (get_or l k []) sound (ok_at (suc n) 0 k l ok (omega arith) (omega arith))

  abbrev bytes : List ℕ
  bytes = setup_in (get_or l k [])

  -- the place that was saved, put back
  put_back_lem : (r : List (List ℕ)) → set r k (get_or l k []) ≡ l → length r ≡ 8 → All r → Saves (replicate store_size 0) n (laid n r)
      → Saves (replicate store_size 0) (suc n) (laid (suc n) l)
  put_back_lem r e size a x =
      let v = is_saved bytes holds.setup in
      let f : after_save (setup_bytes v.state.setup) (laid n r) ≡ laid (suc n) l =
      ap (λ (b : List ℕ). after_save b (laid n r)) v.bytes_of ∙ after_laid bytes n r size a
      ∙ ap (λ (p : List ℕ). laid (suc n) (set r k p)) holds.is
      ∙ ap (laid (suc n)) e in
      let h : last_number (laid n r) < last_of_all = omega (arith, laid_last n r) in
      subst (λ (z : List ℕ). Saves (replicate store_size 0) (suc n) z) f (save v.state v.shaped v.possible h x)

  -- any store before it can be left, so this one can
  abbrev Before : Type 0
  Before = (r : List (List ℕ)) → length r ≡ 8 → All r → places_ok n 0 r ≡ true → Saves (replicate store_size 0) n (laid n r)

  last_save : Before → Saves (replicate store_size 0) (suc n) (laid (suc n) l)
  last_save before = by (either_way (ltb n 8))
    where
      by : (ltb n 8 ≡ true) ⊎ (ltb n 8 ≡ false) → Saves (replicate store_size 0) (suc n) (laid (suc n) l)
      by (inl t) =
          let b = ltb-true n 8 t in
          let j : n % 8 ≡ n = omega arith in
          let r = set l n empty in
          let size = length-set l n empty ∙ eight in
          let a = all_set n all empty_sound in
          put_back_lem r (rw j (set-set l n empty (get_or l n []) ∙ set-get_or l n [])) size a (before r size a (ok_unsaved n 0 n l ok (omega arith)))
      by (inr t) =
          let b = ltb-false n 8 t in
          let same = ok_same n (suc n) 0 l (λ i x y. same_below i n (omega (arith, eight))) in
          put_back_lem l (set-get_or l (n % 8) []) eight all (before l eight all (same ∙ ok))

reached : (n : ℕ) (l : List (List ℕ)) → n ≤ last_of_all → length l ≡ 8 → All l → places_ok n 0 l ≡ true → Saves (replicate store_size 0) n (laid n l)
reached zero l h e a ok =
    let z : laid 0 l ≡ replicate store_size 0 = ap (laid 0) (unused_empty 0 l a ok ∙ ap (λ (n : ℕ). replicate n empty) e) ∙ zeros_laid in
    subst (λ (s : List ℕ). Saves (replicate store_size 0) 0 s) (sym z) none
reached (suc n) l h e a ok = last_save n l (omega arith) e a ok (λ r size all before. reached n r (omega arith) size all before)

-- a store of bytes that passes the test is one that saves leave
pub is_leaves : (store : List ℕ) → ((i : ℕ) → get_or store i 0 < 256) → is_store store ≡ true → Leaves store
unfolding is_store
is_leaves store bytes e =
    let r = both_parts (eqb (length store) store_size) (places_ok (last_number store) 0 (places store)) e in
    let size = eqb-true (length store) store_size r.0 in
    let long : length (drop 2 store) ≡ 8 * place_size = omega (arith, length-drop 2 store) in
    let all = cut_all 8 (drop 2 store) long (λ i. rw (get_or-drop 2 store i 0) (bytes (2 + i))) in
    let most : last_number store ≤ last_of_all = omega (arith, bytes 0, bytes 1) in
    let x = reached (last_number store) (places store) most (cut_length 8 (drop 2 store)) all r.1 in
    record { count = last_number store; saves = rw (laid_self store size (bytes 0)) at x }
