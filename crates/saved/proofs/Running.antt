-- Laws of the code: what compares and judges, and what is read from and written to a store.
-- Assumes nothing.
use mathlib.Core.Path.{◌≡◌, refl, sym, ap, ap₂, ◌∙◌}
use mathlib.Core.Bool.{Bool, true, false}
use mathlib.Core.List.{List, [], ◌∷◌, ◌++◌, append-nil, append_assoc}
use Prim.Native.Nat.{ℕ, zero, suc, ◌+◌, ◌-◌, ◌*◌, ◌<◌, ◌≤◌}
use native.Mathlib.Numerals.{add-one}
use native.Mathlib.Omega.{arith}
use lib.Dec.{leb, ltb, eqb}
use lib.ListN.{length-append, length, get_or, take, drop, set, replicate, length-drop, drop_of_length-le, length-replicate}
use lib.Seq.{take-append_seam, drop-append_seam, take-add, drop-cons, drop-drop, take_all, take_at}
use borrow.Rule.Slice.PartMut.{put_mid}
use borrow.Author.Tests.{eq-eqb, ne_eqb, lt-ltb, le-ltb, le-leb, lt-leb, leb-true, eqb-true}
use Rattle.std.specs.Prelude.{Result, Ok, Err, nat_eq, ◌&&◌}
use Rattle.std.specs.List.{list_all}
use lib.Pointwise.{pointwise}
use Rattle.rules.specs.declared.State.{State}
use Rattle.rules.specs.declared.Personality.{Personality}
use Rattle.rules.specs.Cell.{pick, both, same}
use Rattle.rules.specs.Room.{over}
use Rattle.rules.specs.State.{padded}
use Rattle.rules.specs.Slot.{texts_ok}
use Rattle.rules.specs.Possible.{power_on, blank, possible}
use Rattle.rules.specs.Calls.{run_rule}
use Rattle.rules.proofs.Tests.{both_parts}
use Rattle.page.specs.Room.{stored}
use Rattle.page.proofs.Room.{stored_cons, stored_over}
use Rattle.saved.specs.SetupBytes.{setup_bytes, longest}
use Rattle.saved.specs.Settings.{fed}
use Rattle.saved.specs.Store.{place_size, store_size, two_bytes, two_at, place, last_number, last_of_all, cut, places, joined, laid, place_of, setup_in}
use Rattle.saved.specs.Store.{setup_of, after_save, all_zero, is_setup, is_place, places_ok, is_store}
use Rattle.saved.specs.Calls.{refusal_number, last_rule, saved, save_rule, SaveGives, restorable, restored, restoring, restore_rule, RestoreGives}
use Rattle.saved.specs.Calls.{OneSave, OneRestore}
use Rattle.saved.specs.Put.{Put}
use Rattle.saved.specs.declared.Refusal.{Refusal}
use Rattle.saved.proofs.Setups.{fed_fine}
use Rattle.saved.proofs.Places.{padded_split, cut_length, joined_cut}
use Rattle.saved.proofs.Stores.{ok_at}
use Rattle.saved.proofs.Puts.{front}

-- ---- comparing

and_both : (t : Bool) {x y : Bool} → x ≡ y → (t && x) ≡ both t y
and_both true e = e
and_both false e = refl

pub same_each : (a b : List ℕ) → pointwise nat_eq a b ≡ same a b
unfolding same
same_each [] [] = refl
same_each [] (y ∷ b) = refl
same_each (x ∷ a) [] = refl
same_each (x ∷ a) (y ∷ b) = and_both (eqb x y) (same_each a b)

pub zero_each : (l : List ℕ) → list_all (λ b. nat_eq b 0) l ≡ all_zero l
unfolding all_zero
zero_each [] = refl
zero_each (b ∷ l) = and_both (eqb b 0) (zero_each l)

-- ---- the run over a scratch page

pub after_run : (m : Personality) (bytes : List ℕ) {p : List ℕ} {s t : State} {room : ℕ} → p ≡ replicate 1920 0 → s ≡ power_on m → room ≡ 0
    → t ≡ (run_rule p s bytes room).state → (t.setup ≡ fed m bytes) × ((texts_ok 0 t.setup.keys ≡ true) × (texts_ok 0x20 t.setup.labels ≡ true))
unfolding blank fed
after_run m bytes {p} {s} {t} {room} e f z h =
    let g : t ≡ (run_rule (replicate 1920 0) (power_on m) bytes 0).state =
    h ∙ (ap (λ (x : List ℕ). (run_rule x s bytes room).state) e
    ∙ (ap (λ (y : State). (run_rule (replicate 1920 0) y bytes room).state) f
    ∙ ap (λ (n : ℕ). (run_rule (replicate 1920 0) (power_on m) bytes n).state) z)) in
    let k = fed_fine m bytes in (
      ap (λ (x : State). x.setup) g,
      (ap (λ (x : State). texts_ok 0 x.setup.keys) g ∙ k.keys, ap (λ (x : State). texts_ok 0x20 x.setup.labels) g ∙ k.labels),
    )

-- the first n of the bytes put at the front
pub front_part : {l w v : List ℕ} {n : ℕ} → Put 0 l w n v → n ≤ length w → take n v ≡ l
front_part {l} {w} {v} {n} p h =
    let e : length l ≡ n = omega (arith, p.place) in
    ap (take n) (front p (omega (arith, e))) ∙ take_at l (drop (length l) w) n e

-- ---- a place

module _ (p : List ℕ) where
  pub place_long : longest < two_at p 0 → is_place p ≡ false
  unfolding is_place
  place_long h = rw (lt-leb (two_at p 0) longest h)

  pub place_dirty : two_at p 0 ≤ longest → all_zero (drop (two_at p 0) (drop 2 p)) ≡ false → is_place p ≡ false
  unfolding is_place
  place_dirty h e = rw (le-leb (two_at p 0) longest h, e)

  pub place_rest : two_at p 0 ≤ longest → all_zero (drop (two_at p 0) (drop 2 p)) ≡ true → is_place p ≡ is_setup (setup_in p)
  unfolding is_place
  place_rest h e = rw (le-leb (two_at p 0) longest h, e)

  -- its parts as they are lent
  pub behind : (n end k : ℕ) → end ≡ 2 + n → k ≡ length p - end → take k (drop end p) ≡ drop n (drop 2 p)
  behind n end k e f =
      let a = take_all k (drop end p) (omega (arith, length-drop end p)) in
      a ∙ (ap (λ (z : ℕ). drop z p) e ∙ sym (drop-drop n 2 p))

  pub inside : (n end k : ℕ) → end ≡ 2 + n → k ≡ end - 2 → take k (drop 2 p) ≡ take n (drop 2 p)
  inside n end k e f = let z : k ≡ n = omega arith in rw z

-- ---- the places of a store

pub cut_at : (j k : ℕ) (l : List ℕ) → k < j → get_or (cut j l) k [] ≡ take place_size (drop (k * place_size) l)
unfolding cut
cut_at zero k l h = absurd (omega arith)
cut_at (suc j) zero l h = refl
cut_at (suc j) (suc k) l h =
    let e : place_size + k * place_size ≡ suc k * place_size = omega arith in
    cut_at j k (drop place_size l) (omega arith) ∙ ap (take place_size) (drop-drop (k * place_size) place_size l ∙ ap (λ (z : ℕ). drop z l) e)

-- the place k as it is lent
pub place_part : (store : List ℕ) (k at n : ℕ) → k < 8 → at ≡ 2 + 1089 * k → n ≡ 1089 → take n (drop at store) ≡ get_or (places store) k []
place_part store k at n h e f =
    let z : at ≡ 2 + k * place_size = omega arith in
    rw (f, z) (ap (take place_size) (sym (drop-drop (k * place_size) 2 store)) ∙ sym (cut_at 8 k (drop 2 store) h))

module _ (n k : ℕ) (l : List (List ℕ)) (h : k < length l) where
  opened : places_ok n k (drop k l) ≡ both (pick (ltb k n) (is_place (get_or l k [])) (all_zero (get_or l k []))) (places_ok n (k + 1) (drop (k + 1) l))
  unfolding places_ok
  opened = rw (add-one k, drop-cons l k [] h)

  pub used_next : pick (ltb k n) (is_place (get_or l k [])) (all_zero (get_or l k [])) ≡ true
      → places_ok n (k + 1) (drop (k + 1) l) ≡ places_ok n k (drop k l)
  used_next e = sym (opened ∙ rw e)

  pub used_apart : pick (ltb k n) (is_place (get_or l k [])) (all_zero (get_or l k [])) ≡ false → places_ok n k (drop k l) ≡ false
  used_apart e = opened ∙ rw e

pub used_end : (n k : ℕ) (l : List (List ℕ)) → length l ≤ k → places_ok n k (drop k l) ≡ true
unfolding places_ok
used_end n k l h = ap (places_ok n k) (drop_of_length-le l h)

pub store_unlike : (store : List ℕ) → (length store ≡ 8714 → ⊥) → is_store store ≡ false
unfolding is_store
store_unlike store n = rw (ne_eqb (length store) store_size n)

pub store_like : (store : List ℕ) → length store ≡ 8714 → is_store store ≡ places_ok (last_number store) 0 (places store)
unfolding is_store
store_like store e = rw (eq-eqb (length store) store_size e)

pub store_length : (store : List ℕ) → is_store store ≡ true → length store ≡ 8714
unfolding is_store
store_length store e = eqb-true (length store) store_size (both_parts (eqb (length store) store_size) _ e).0

-- the loop over the places, of which j are left
pub record Judging (store : List ℕ) (n k : ℕ) (rest : List ℕ) : Type 0 where
  pub size : length store ≡ 8714
  pub number : n ≡ last_number store
  pub left : ℕ
  pub range : k + left ≡ 8
  pub long : length rest ≡ 1089 * left
  pub is : places_ok n k (cut left rest) ≡ places_ok n 0 (places store)

cut_more : (j : ℕ) (p rest' : List ℕ) {rest : List ℕ} → rest ≡ p ++ rest' → length p ≡ place_size → cut (suc j) rest ≡ p ∷ cut j rest'
unfolding cut
cut_more j p rest' {rest} e f =
    let t : take place_size (p ++ rest') ≡ p = rw (← f) (take-append_seam p rest') in
    let d : drop place_size (p ++ rest') ≡ rest' = rw (← f) (drop-append_seam p rest') in
    rw (e, t, d)

module _ {store : List ℕ} {n k : ℕ} {rest : List ℕ} (h : Judging store n k rest) where
  judged : places_ok n k (cut h.left rest) ≡ is_store store
  judged = h.is ∙ (ap (λ (i : ℕ). places_ok i 0 (places store)) h.number ∙ sym (store_like store h.size))

  module _ (p rest' : List ℕ) (e : rest ≡ p ++ rest') (f : length p ≡ 1089) where
    more : (j : ℕ) → h.left ≡ suc j → places_ok n k (cut h.left rest) ≡ both (pick (ltb k n) (is_place p) (all_zero p)) (places_ok n (suc k) (cut j rest'))
    unfolding places_ok
    more j g = rw (g, cut_more j p rest' e f)

    pub store_false : (i : ℕ) → i ≡ k → 0 < length rest → pick (ltb i n) (is_place p) (all_zero p) ≡ false → false ≡ is_store store
    store_false i c l q = let t = ap (λ (z : ℕ). pick (ltb z n) (is_place p) (all_zero p)) (sym c) ∙ q in let g : h.left ≡ suc (h.left - 1) = omega (arith, h.long, l) in sym (more (h.left - 1) g ∙ rw t) ∙ judged

    pub store_again : (i m : ℕ) → i ≡ k → m ≡ k + 1 → 0 < length rest → pick (ltb i n) (is_place p) (all_zero p) ≡ true → Judging store n m rest'
    store_again i m c d l q =
        let t = ap (λ (z : ℕ). pick (ltb z n) (is_place p) (all_zero p)) (sym c) ∙ q in
        let g : h.left ≡ suc (h.left - 1) = omega (arith, h.long, l) in
        let s : m ≡ suc k = omega (arith, d) in
        record {
          size = h.size;
          number = h.number;
          left = h.left - 1;
          range = omega (arith, h.range, g, d);
          long = omega (arith, h.long, g, ap length e, length-append p rest', f);
          is = rw s (sym (more (h.left - 1) g ∙ rw t)) ∙ h.is;
        }

  pub store_true : length rest ≡ 0 → true ≡ is_store store
  unfolding places_ok cut
  store_true l = let g : h.left ≡ 0 = omega (arith, h.long, l) in sym (rw g refl) ∙ judged

pub store_begun : {store rest : List ℕ} {n k : ℕ} → length store ≡ 8714 → n ≡ last_number store → k ≡ 0 → rest ≡ drop 2 store → Judging store n k rest
store_begun {store} a b c d =
    rw (c, d) (record { size = a; number = b; left = 8; range = refl; long = omega (arith, length-drop 2 store, a); is = refl })

-- the place of a number that can be restored
module _ (store : List ℕ) (n : ℕ) (e : is_store store ≡ true) (h : restorable (last_number store) n ≡ true) where
  pub number_range : (1 ≤ n) × (n ≤ last_number store)
  number_range =
      let r = both_parts (leb 1 n) _ h in
      let q = both_parts (leb n (last_number store)) _ r.1 in
      (leb-true 1 n r.0, leb-true n (last_number store) q.0)

  pub number_short : two_at (get_or (places store) (place_of n) []) 0 ≤ longest
  unfolding is_store is_place
  number_short =
      let r = both_parts (eqb (length store) store_size) _ e in
      let k = ok_at (last_number store) 0 (place_of n) (places store) r.1 (omega (arith, cut_length 8 (drop 2 store)))
      (omega (arith, number_range)) in
      leb-true _ longest (both_parts (leb (two_at (get_or (places store) (place_of n) []) 0) longest) _ k).0

-- ---- writing

-- bytes behind the first two, to the end
pub behind_two : (p bytes : List ℕ) {q r : List ℕ} (a b : ℕ) → q ≡ a ∷ b ∷ drop 2 p → r ≡ stored 2 bytes q → length p ≡ 2 + length bytes
    → r ≡ a ∷ b ∷ bytes
unfolding over
behind_two p bytes {q} {r} a b e f size =
    let w = drop 2 p in
    let k : length w ≡ length bytes = omega (arith, length-drop 2 p) in
    let all : stored 0 bytes w ≡ bytes = stored_over bytes w (omega arith)
    ∙ (ap (λ (z : List ℕ). bytes ++ z) (drop_of_length-le w {i = length bytes} (omega arith)) ∙ append-nil bytes) in
    f ∙ (ap (stored 2 bytes) e
    ∙ (stored_cons bytes 1 a (b ∷ w) ∙ ap {B = List ℕ} (λ z. a ∷ z) (stored_cons bytes 0 b w ∙ ap {B = List ℕ} (λ z. b ∷ z) all)))

drop_zeros : (n k : ℕ) → drop n (replicate {A = ℕ} k 0) ≡ replicate (k - n) 0
drop_zeros zero k = let e : k - 0 ≡ k = omega arith in rw e
drop_zeros (suc n) zero = let e : 0 - suc n ≡ 0 = omega arith in rw e
drop_zeros (suc n) (suc k) = let e : suc k - suc n ≡ k - n = omega arith in rw e (drop_zeros n k)

-- the bytes put into zeros make the place
pub place_made : {bytes w v : List ℕ} {n : ℕ} → Put 0 bytes w n v → w ≡ replicate 1087 0 → n ≤ 1087 → two_bytes n ++ v ≡ place bytes
place_made {bytes} {w} {v} {n} p z h =
    let e : n ≡ length bytes = omega (arith, p.place) in
    let size : length w ≡ 1087 = ap length z ∙ length-replicate {A = ℕ} 1087 0 in
    let f : v ≡ padded longest bytes =
    front p (omega (arith, size, e)) ∙ (ap (λ (x : List ℕ). bytes ++ drop (length bytes) x) z
    ∙ (ap (λ (x : List ℕ). bytes ++ x) (drop_zeros (length bytes) 1087) ∙ sym (padded_split bytes (omega (arith, e))))) in
    ap₂ {C = List ℕ} (λ x y. two_bytes x ++ y) e f ∙ unfold place in refl

-- a place is written over
joined_set : (j k : ℕ) (l p : List ℕ) → k < j → length l ≡ j * place_size
    → joined (set (cut j l) k p) ≡ take (k * place_size) l ++ (p ++ drop (k * place_size + place_size) l)
unfolding joined cut
joined_set zero k l p h e = absurd (omega arith)
joined_set (suc j) zero l p h e =
    let r : joined (cut j (drop place_size l)) ≡ drop place_size l = joined_cut j (drop place_size l) (omega (arith, length-drop place_size l)) in
    ap (λ (z : List ℕ). p ++ z) r
joined_set (suc j) (suc k) l p h e =
    let i = joined_set j k (drop place_size l) p (omega arith) (omega (arith, length-drop place_size l)) in
    let a : suc k * place_size ≡ place_size + k * place_size = omega arith in
    let b : suc k * place_size + place_size ≡ place_size + (k * place_size + place_size) = omega arith in
    ap (λ (z : List ℕ). take place_size l ++ z) i
    ∙ rw (b, a, take-add place_size (k * place_size) l, drop-drop (k * place_size + place_size) place_size l)
    (sym (append_assoc (take place_size l) (take (k * place_size) (drop place_size l)) (p ++ drop (place_size + (k * place_size + place_size)) l)))

front_two : (m : ℕ) (store r : List ℕ) → 2 + m ≤ length store → drop 2 (take (2 + m) store ++ r) ≡ take m (drop 2 store) ++ r
front_two m [] r h = absurd (omega arith)
front_two m (a ∷ []) r h = absurd (omega arith)
front_two m (a ∷ b ∷ l) r h = let e : 2 + m ≡ suc (suc m) = omega arith in rw e

-- a place as it is written
pub place_over : (store : List ℕ) (at end n : ℕ) {p q : List ℕ} → end ≡ at + n → p ≡ q → put_mid at n store p ≡ take at store ++ (q ++ drop end store)
place_over store at end n {p} {q} e f = rw (f, e, drop-drop n at store)

-- the store with a place written over and then its number
pub store_saved : (bytes store : List ℕ) (n at end : ℕ) {mid last : List ℕ} → length store ≡ 8714 → n ≡ last_number store + 1
    → at ≡ 2 + 1089 * (place_of n) → end ≡ at + 1089 → mid ≡ take at store ++ (place bytes ++ drop end store) → last ≡ two_bytes n ++ drop 2 mid
    → last ≡ after_save bytes store
unfolding after_save laid
store_saved bytes store n at end {mid} {last} size e f g h z =
    let k = place_of n in
    let a : at ≡ 2 + k * place_size = omega arith in
    let b : end ≡ 2 + (k * place_size + place_size) = omega arith in
    let rest : drop 2 mid ≡ joined (set (places store) k (place bytes)) =
    ap (drop 2) (h ∙ ap₂ {C = List ℕ} (λ i j. take i store ++ (place bytes ++ drop j store)) a b)
    ∙ (front_two (k * place_size) store (place bytes ++ drop (2 + (k * place_size + place_size)) store) (omega (arith, size))
    ∙ (ap (λ (y : List ℕ). take (k * place_size) (drop 2 store) ++ (place bytes ++ y)) (sym (drop-drop (k * place_size + place_size) 2 store))
    ∙ sym (joined_set 8 k (drop 2 store) (place bytes) (omega arith) (omega (arith, size, length-drop 2 store))))) in
    z ∙ (ap (λ (y : List ℕ). two_bytes n ++ y) rest ∙ ap (λ (i : ℕ). two_bytes i ++ joined (set (places store) (place_of i) (place bytes))) e)

-- ---- the calls

-- what a state and a store are, by what their last number is
pub last_ok : (s : State) (store : List ℕ) {n : ℕ} → last_rule s store ≡ Ok n
    → (possible s ≡ true) × ((is_store store ≡ true) × (n ≡ last_number store))
last_ok s store {n} = by (possible s) (is_store store) refl refl
  where
    by : (a b : Bool) → possible s ≡ a → is_store store ≡ b
        → pick a (pick b (Ok (last_number store)) (Err Refusal.BadStore)) (Err Refusal.BadState) ≡ Ok n
        → (possible s ≡ true) × ((is_store store ≡ true) × (n ≡ last_number store))
    by true true e f h = (e, (f, cc))
    by true false e f h = cc
    by false b e f h = cc

module _ (s : State) (store : List ℕ) where
  abbrev Saving : Result ℕ Refusal → List ℕ → Type 0
  Saving a t = SaveGives (save_rule s store) a t

  pub save_refused : {x : Refusal} → last_rule s store ≡ Err x → Saving (Err x) store
  unfolding save_rule
  save_refused {x} = by (possible s) (is_store store)
    where
      by : (a b : Bool) → pick a (pick b (Ok (last_number store)) (Err Refusal.BadStore)) (Err Refusal.BadState) ≡ Err x
          → SaveGives
          (pick a
          (pick b
          (pick (ltb (last_number store) last_of_all) (saved (Ok (last_number store + 1)) (after_save (setup_bytes s.setup) store))
          (saved (Err Refusal.Full) store)) (saved (Err Refusal.BadStore) store)) (saved (Err Refusal.BadState) store)) (Err x) store
      by true true h = cc
      by true false h = record { answer = cc; number = refl; store = refl }
      by false b h = record { answer = cc; number = refl; store = refl }

  module _ (e : possible s ≡ true) (f : is_store store ≡ true) where
    pub save_over : {n : ℕ} → n ≡ last_number store → 65535 ≤ n → Saving (Err Refusal.Full) store
    unfolding save_rule
    save_over g h =
        rw (e, f, le-ltb (last_number store) last_of_all (omega (arith, g, h))) record { answer = refl; number = refl; store = refl }

    pub save_next : {n : ℕ} {after : List ℕ} → n ≡ last_number store → n < 65535 → after ≡ after_save (setup_bytes s.setup) store
        → Saving (Ok (n + 1)) after
    unfolding save_rule
    save_next {n} {after} g h z = rw (e, f, lt-ltb (last_number store) last_of_all (omega (arith, g, h)))
        record { answer = refl; number = ap (λ (i : ℕ). i + 1) g; store = z }

module _ (s : State) (store : List ℕ) (n : ℕ) where
  abbrev Restoring : Result State Refusal → Type 0
  Restoring a = RestoreGives s (restore_rule s store n) a

  pub restore_refused : {x : Refusal} → last_rule s store ≡ Err x → Restoring (Err x)
  unfolding restore_rule
  restore_refused {x} = by (possible s) (is_store store)
    where
      by : (a b : Bool) → pick a (pick b (Ok (last_number store)) (Err Refusal.BadStore)) (Err Refusal.BadState) ≡ Err x
          → RestoreGives s
          (pick a
          (pick b (pick (restorable (last_number store) n) (restoring s (Ok (restored (setup_of store n) s))) (restoring s (Err Refusal.BadNumber)))
          (restoring s (Err Refusal.BadStore))) (restoring s (Err Refusal.BadState))) (Err x)
      by true true h = cc
      by true false h = record { answer = cc; state = refl }
      by false b h = record { answer = cc; state = refl }

  module _ (e : possible s ≡ true) (f : is_store store ≡ true) where
    pub restore_none : restorable (last_number store) n ≡ false → Restoring (Err Refusal.BadNumber)
    unfolding restore_rule
    restore_none g = rw (e, f, g) record { answer = refl; state = refl }

    pub restore_some : {t : State} → restorable (last_number store) n ≡ true → t ≡ restored (setup_of store n) s → Restoring (Ok t)
    unfolding restore_rule
    restore_some g z = rw (e, f, g) record { answer = refl; state = z }

-- ---- the answers' numbers

one_refusal : (x y : Refusal) → refusal_number x ≡ refusal_number y → x ≡ y
one_refusal Refusal.BadState Refusal.BadState e = refl
one_refusal Refusal.BadState Refusal.BadStore e = absurd (omega (arith, e))
one_refusal Refusal.BadState Refusal.BadNumber e = absurd (omega (arith, e))
one_refusal Refusal.BadState Refusal.Full e = absurd (omega (arith, e))
one_refusal Refusal.BadStore Refusal.BadState e = absurd (omega (arith, e))
one_refusal Refusal.BadStore Refusal.BadStore e = refl
one_refusal Refusal.BadStore Refusal.BadNumber e = absurd (omega (arith, e))
one_refusal Refusal.BadStore Refusal.Full e = absurd (omega (arith, e))
one_refusal Refusal.BadNumber Refusal.BadState e = absurd (omega (arith, e))
one_refusal Refusal.BadNumber Refusal.BadStore e = absurd (omega (arith, e))
one_refusal Refusal.BadNumber Refusal.BadNumber e = refl
one_refusal Refusal.BadNumber Refusal.Full e = absurd (omega (arith, e))
one_refusal Refusal.Full Refusal.BadState e = absurd (omega (arith, e))
one_refusal Refusal.Full Refusal.BadStore e = absurd (omega (arith, e))
one_refusal Refusal.Full Refusal.BadNumber e = absurd (omega (arith, e))
one_refusal Refusal.Full Refusal.Full e = refl

refused : (x : Refusal) → 0 < refusal_number x
refused Refusal.BadState = omega arith
refused Refusal.BadStore = omega arith
refused Refusal.BadNumber = omega arith
refused Refusal.Full = omega arith

pub one_save : OneSave
one_save (Ok n) (Ok m) e k = ap Ok k
one_save (Ok n) (Err y) e k = absurd (omega (arith, e, refused y))
one_save (Err x) (Ok m) e k = absurd (omega (arith, e, refused x))
one_save (Err x) (Err y) e k = ap Err (one_refusal x y e)

pub one_restore : OneRestore
one_restore s (Ok t) (Ok u) e k = ap Ok k
one_restore s (Ok t) (Err y) e k = absurd (omega (arith, e, refused y))
one_restore s (Err x) (Ok u) e k = absurd (omega (arith, e, refused x))
one_restore s (Err x) (Err y) e k = ap Err (one_refusal x y e)
