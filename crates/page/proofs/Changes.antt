-- Laws of the changes of cells: the length, and what stands at each place.
--     lent                                     a part of the page was lent and came back
--     length_filled, filled_at, one_filled
--     length_left, left_kept, left_new         what comes from the right; what comes in
--     length_right, right_kept, right_new
--     at_front, at_part, at_back               what stands before, in and behind a part that was changed
--     filled_up                                a shift ends by a fill of the cells that come in
--     put_start, put_turn, put_done            the loop that puts one number into cells
--     block_filled, last_filled                a fill by blocks: one block more, and the last, which may overlap the one before
--     left_turn, left_filled                   the loop of a shift to the left: a turn, and the fill after it
--     right_turn, right_filled                 to the right
--     none_shifted                             where nothing moves
--     last_count                               the counts of a shift
--     none_or_some, edit_inside, whole_rows    what is lent to it: an edit run, the cells of whole rows
--     column_step                              one row of a column
-- Assumes nothing.
use mathlib.Core.Path.{◌≡◌, refl, sym, ap, ◌∙◌}
use mathlib.Core.List.{List, [], ◌∷◌, ◌++◌}
use mathlib.Core.Bool.{Bool, true, false}
use mathlib.Core.Logic.{◌⊎◌, inl, inr, ⊎_elim}
use Prim.Native.Nat.{ℕ, zero, suc, ◌+◌, ◌-◌, ◌*◌, ◌≤◌, ◌<◌}
use native.Mathlib.Nat.{le_of_suc-le-suc, not-suc-le-zero, eq-or-lt_of_le, suc-mul}
use native.Mathlib.Numerals.{add-one}
use native.Mathlib.Omega.{arith}
use lib.ListN.{length, get_or, set, take, drop, replicate, length-append, length-drop, length-map, length-replicate, get_or-replicate, get_or-append}
use lib.Seq.{length-take-le, get_or-drop, get_or-take, get_or-append-add, drop-cons, set_split, ext_get_or}
use borrow.Rule.Slice.PartMut.{put_mid, mid_len, same_len_mid}
use Rattle.page.proofs.Loop.{Joined, step_up, step_down}
use Rattle.rules.specs.Cell.{space}
use Rattle.rules.specs.Row.{Width, columns}
use Rattle.rules.specs.Change.{within, fill_cell, filled, shift_left, shift_right, shifted, rows_shifted, column_filled}
use Rattle.rules.specs.Search.{guarded_at, edit_end}
use Rattle.rules.proofs.Searching.{length_guards, edit_range}
use Rattle.rules.proofs.Rows.{columns_width, rows_le}

-- a part was lent, `&mut page[a..e]`, and came back as q, which f makes of it
pub lent : (a e : ℕ) (f : List ℕ → List ℕ) (p : List ℕ) {q : List ℕ} → q ≡ f (take (e - a) (drop a p)) → put_mid a (e - a) p q ≡ within a e f p
unfolding within
lent a e f p w = rw w

-- ---- fills

module _ (on : Bool) (v : ℕ) where
  pub length_filled : (p : List ℕ) → length (filled on v p) ≡ length p
  unfolding filled
  length_filled p = length-map p (fill_cell on v)

  pub filled_at : (p : List ℕ) (i : ℕ) → i < length p → get_or (filled on v p) i 0 ≡ fill_cell on v (get_or p i 0)
  unfolding filled
  filled_at [] i h = absurd (not-suc-le-zero h)
  filled_at (x ∷ p) zero h = refl
  filled_at (x ∷ p) (suc i) h = filled_at p i (le_of_suc-le-suc h)

  -- a fill of one cell
  pub one_filled : (p : List ℕ) (i : ℕ) → i < length p → set p i (fill_cell on v (get_or p i 0)) ≡ within i (i + 1) (filled on v) p
  unfolding within filled
  one_filled p i h =
      let e : i + 1 - i ≡ 1 = omega arith in
      rw (e, drop-cons p i 0 h) (set_split p i (fill_cell on v (get_or p i 0)) h)

-- ---- shifts

get_or_second : (x y : List ℕ) (i : ℕ) → length x ≤ i → get_or (x ++ y) i 0 ≡ get_or y (i - length x) 0
get_or_second x y i h =
    let e : i ≡ length x + (i - length x) = omega arith in
    ap (λ (k : ℕ). get_or (x ++ y) k 0) e ∙ get_or-append-add x y (i - length x) 0

module _ (k v : ℕ) (p : List ℕ) where
  pub length_left : length (shift_left k v p) ≡ length p
  unfolding shift_left
  length_left = simp (length-drop, length-append, length-replicate) (omega arith)

  pub left_kept : (i : ℕ) → i + k < length p → get_or (shift_left k v p) i 0 ≡ get_or p (i + k) 0
  unfolding shift_left
  left_kept i h =
      let e : k + i ≡ i + k = omega arith in
      get_or-drop k (p ++ replicate k v) i 0 ∙ rw e (get_or-append p (replicate k v) 0 (i + k) h)

  pub left_new : (i : ℕ) → i < length p → length p ≤ i + k → get_or (shift_left k v p) i 0 ≡ v
  unfolding shift_left
  left_new i h n =
      get_or-drop k (p ++ replicate k v) i 0
      ∙ get_or_second p (replicate k v) (k + i) (omega arith)
      ∙ get_or-replicate k (k + i - length p) v 0 (omega arith)

  pub length_right : length (shift_right k v p) ≡ length p
  unfolding shift_right
  length_right = length-take-le (length p) (replicate k v ++ p) (simp (length-append, length-replicate) (omega arith))

  pub right_kept : (i : ℕ) → i + k < length p → get_or (shift_right k v p) (i + k) 0 ≡ get_or p i 0
  unfolding shift_right
  right_kept i h =
      let e : i + k - k ≡ i = omega arith in
      get_or-take (length p) (replicate k v ++ p) (i + k) 0 h
      ∙ get_or_second (replicate k v) p (i + k) (rw length-replicate (omega arith))
      ∙ rw (length-replicate, e) refl

  pub right_new : (i : ℕ) → i < length p → i < k → get_or (shift_right k v p) i 0 ≡ v
  unfolding shift_right
  right_new i h n =
      get_or-take (length p) (replicate k v ++ p) i 0 h
      ∙ get_or-append (replicate k v) p 0 i (rw length-replicate n)
      ∙ get_or-replicate k i v 0 n

-- ---- cell by cell, after a part was changed

lt_or_le : (i n : ℕ) → (i < n) ⊎ (n ≤ i)
lt_or_le i zero = inr (omega arith)
lt_or_le zero (suc n) = inl (omega arith)
lt_or_le (suc i) (suc n) = ⊎_elim (λ h. inl (omega arith)) (λ h. inr (omega arith)) (lt_or_le i n)

module _ (a e : ℕ) (f : List ℕ → List ℕ) (p : List ℕ) (h : a ≤ e) (k : e ≤ length p)
    (s : length (f (take (e - a) (drop a p))) ≡ length (take (e - a) (drop a p))) where
  front : length (take a p) ≡ a
  front = length-take-le a p (omega arith)

  middle : length (f (take (e - a) (drop a p))) ≡ e - a
  middle = s ∙ mid_len a e p k

  pub at_front : (i : ℕ) → i < a → get_or (within a e f p) i 0 ≡ get_or p i 0
  unfolding within
  at_front i b = get_or-append (take a p) _ 0 i (rw front b) ∙ get_or-take a p i 0 b

  pub at_part : (i : ℕ) → i < e - a → get_or (within a e f p) (a + i) 0 ≡ get_or (f (take (e - a) (drop a p))) i 0
  unfolding within
  at_part i b =
      let q = f (take (e - a) (drop a p)) in
      let r = drop (e - a) (drop a p) in
      let n : a + i - a ≡ i = omega arith in
      get_or_second (take a p) (q ++ r) (a + i) (rw front (omega arith))
      ∙ rw (front, n) (get_or-append q r 0 i (rw middle b))

  pub at_back : (i : ℕ) → e ≤ i → get_or (within a e f p) i 0 ≡ get_or p i 0
  unfolding within
  at_back i b =
      let q = f (take (e - a) (drop a p)) in
      let r = drop (e - a) (drop a p) in
      let n : a + (e - a + (i - a - (e - a))) ≡ i = omega arith in
      get_or_second (take a p) (q ++ r) i (rw front (omega arith))
      ∙ rw (
        front,
        get_or_second q r (i - a) (rw middle (omega arith)),
        middle,
        get_or-drop (e - a) (drop a p) (i - a - (e - a)) 0,
        get_or-drop a p (e - a + (i - a - (e - a))) 0,
        n,
      )

  pub length_within : length (within a e f p) ≡ length p
  unfolding within
  length_within = same_len_mid a (e - a) p (f (take (e - a) (drop a p))) s

-- p is x but for the cells a up to e, and these are v in x
module _ (a e v : ℕ) (p x : List ℕ) (h : a ≤ e) (k : e ≤ length p) where
  pub filled_up : length p ≡ length x → ((i : ℕ) → i < a → get_or p i 0 ≡ get_or x i 0)
      → ((i : ℕ) → a ≤ i → i < e → get_or x i 0 ≡ v) → ((i : ℕ) → e ≤ i → i < length p → get_or p i 0 ≡ get_or x i 0)
      → within a e (filled false v) p ≡ x
  filled_up n before new after =
      let f = filled false v in
      let s = length_filled false v (take (e - a) (drop a p)) in
      ext_get_or 0 (within a e f p) x (length_within a e f p h k s ∙ n)
      (λ i b. ⊎_elim
      (λ c. at_front a e f p h k s i c ∙ before i c)
      (λ c. ⊎_elim
      (λ d.
      let m : a + (i - a) ≡ i = omega arith in
      rw m at (at_part a e f p h k s (i - a) (omega arith))
      ∙ filled_at false v (take (e - a) (drop a p)) (i - a) (omega (arith, mid_len a e p k))
      ∙ sym (new i c d))
      (λ d. at_back a e f p h k s i d ∙ after i d (omega (arith, length_within a e f p h k s)))
      (lt_or_le i e))
      (lt_or_le i a))

-- ---- k cells from a on become v

module _ (a k v : ℕ) (p : List ℕ) (fits : a + k ≤ length p) where
  size_filled : length (filled false v (take (a + k - a) (drop a p))) ≡ length (take (a + k - a) (drop a p))
  size_filled = length_filled false v (take (a + k - a) (drop a p))

  pub put_start : Joined a (within a (a + k) (filled false v) p) p p
  put_start = record {
    even = length_within a (a + k) (filled false v) p (omega arith) fits size_filled;
    long = refl;
    below = λ j h. sym (at_front a (a + k) (filled false v) p (omega arith) fits size_filled j h);
    above = λ j h. refl;
  }

  module _ {i : ℕ} {l : List ℕ} (j : Joined (a + i) (within a (a + k) (filled false v) p) p l) where
    pub put_turn : i < k → Joined (a + (i + 1)) (within a (a + k) (filled false v) p) p (set l (a + i) v)
    put_turn h =
        let e : a + i + 1 ≡ a + (i + 1) = omega arith in
        rw (← e) (step_up j (omega arith)
        (sym (at_part a (a + k) (filled false v) p (omega arith) fits size_filled i (omega arith)
        ∙ filled_at false v (take (a + k - a) (drop a p)) i (omega (arith, mid_len a (a + k) p fits)))))

    pub put_done : k ≤ i → i ≤ k → l ≡ within a (a + k) (filled false v) p
    put_done h n =
        ext_get_or 0 l (within a (a + k) (filled false v) p) (j.long ∙ sym j.even)
        (λ m b. ⊎_elim
        (λ c. j.below m (omega arith))
        (λ c. j.above m (omega arith) ∙ sym (at_back a (a + k) (filled false v) p (omega arith) fits size_filled m c))
        (lt_or_le m (a + k)))

-- ---- a fill by blocks: below i it is done

module _ (v : ℕ) (p : List ℕ) {i : ℕ} {l : List ℕ} (j : Joined i (filled false v p) p l) where
  pub block_filled : (k : ℕ) → i + k ≤ length p → Joined (i + k) (filled false v p) p (within i (i + k) (filled false v) l)
  block_filled k h =
      let f = filled false v in
      let fits : i + k ≤ length l = omega (arith, j.long) in
      let s = length_filled false v (take (i + k - i) (drop i l)) in
      record {
        even = j.even;
        long = length_within i (i + k) f l (omega arith) fits s ∙ j.long;
        below = λ m b. ⊎_elim
            (λ c. at_front i (i + k) f l (omega arith) fits s m c ∙ j.below m c)
            (λ c.
            let e : i + (m - i) ≡ m = omega arith in
            rw e at (at_part i (i + k) f l (omega arith) fits s (m - i) (omega arith))
            ∙ filled_at false v (take (i + k - i) (drop i l)) (m - i) (omega (arith, mid_len i (i + k) l fits))
            ∙ sym (filled_at false v p m (omega arith)))
            (lt_or_le m i);
        above = λ m b. at_back i (i + k) f l (omega arith) fits s m b ∙ j.above m (omega arith);
      }

  pub last_filled : (a k : ℕ) → a ≤ i → a + k ≡ length p → within a (a + k) (filled false v) l ≡ filled false v p
  last_filled a k h e =
      filled_up a (a + k) v l (filled false v p) (omega arith) (omega (arith, j.long)) (j.long ∙ sym j.even)
      (λ m b. j.below m (omega arith)) (λ m b d. filled_at false v p m (omega arith))
      (λ m b d. absurd (omega (arith, j.long)))

-- ---- the loops of the shifts

module _ (k v : ℕ) (p : List ℕ) {l : List ℕ} {i : ℕ} where
  pub left_turn : i < length p - k → Joined i (shift_left k v p) p l
      → Joined (i + 1) (shift_left k v p) p (set l i (get_or l (i + k) 0))
  left_turn h j = step_up j (omega arith) (j.above (i + k) (omega arith) ∙ sym (left_kept k v p i (omega arith)))

  pub left_filled : {f : ℕ} → k ≤ length p → f ≡ length p - k → f ≤ i → i ≤ f → Joined i (shift_left k v p) p l
      → within f (f + k) (filled false v) l ≡ shift_left k v p
  left_filled {f} fits e h n j =
      filled_up f (f + k) v l (shift_left k v p) (omega arith) (omega (arith, j.long)) (j.long ∙ sym j.even)
      (λ m b. j.below m (omega arith)) (λ m b d. left_new k v p m (omega arith) (omega arith))
      (λ m b d. absurd (omega (arith, j.long)))

  pub right_turn : 0 < i → i ≤ length p - k → Joined (i + k) p (shift_right k v p) l
      → Joined (i - 1 + k) p (shift_right k v p) (set l (i - 1 + k) (get_or l (i - 1) 0))
  right_turn h n j =
      let e : i + k - 1 ≡ i - 1 + k = omega arith in
      rw (← e) (step_down j (omega arith) (omega (arith, length_right k v p))
      (j.below (i - 1) (omega arith) ∙ rw e (sym (right_kept k v p (i - 1) (omega arith)))))

  pub right_filled : k ≤ length p → i ≤ 0 → Joined (i + k) p (shift_right k v p) l
      → within 0 (0 + k) (filled false v) l ≡ shift_right k v p
  right_filled fits n j =
      filled_up 0 (0 + k) v l (shift_right k v p) (omega arith) (omega (arith, j.long, length_right k v p)) j.long
      (λ m b. absurd (omega arith)) (λ m b d. right_new k v p m (omega arith) (omega arith))
      (λ m b d. j.above m (omega arith))

-- ---- where nothing moves

pub length_shifted : (right : Bool) (k v : ℕ) (p : List ℕ) → length (shifted right k v p) ≡ length p
length_shifted true k v p = length_right k v p
length_shifted false k v p = length_left k v p

pub none_shifted : (right : Bool) (k v : ℕ) (p : List ℕ) → (length p ≡ 0) ⊎ (k ≤ length p) → length p < k → p ≡ shifted right k v p
none_shifted right k v p h n =
    ext_get_or 0 p (shifted right k v p) (sym (length_shifted right k v p))
    (λ i b. absurd (⊎_elim (λ e. omega arith) (λ e. omega arith) h))

-- ---- the parts that move

pub last_count : {k : ℕ} → (k ≡ 1) ⊎ Width k → (k ≡ 1 → ⊥) → (k ≡ 80 → ⊥) → k ≡ 132
last_count h n m = ⊎_elim (λ e. absurd (n e)) (⊎_elim (λ e. absurd (m e)) (λ e. e)) h

pub none_or_some : (n : ℕ) → (n ≡ 0) ⊎ (1 ≤ n)
none_or_some zero = inl refl
none_or_some (suc n) = inr (omega arith)

-- the edit run lies in the page
pub edit_inside : {w at e : ℕ} (on : Bool) (p : List ℕ) → Width w → length p ≡ 24 * w → at < 24 * w → e ≡ edit_end w (guarded_at on p) at
    → (at ≤ e) × (e ≤ length p)
edit_inside {w} {at} on p k n h e = omega (arith, e, length_guards on p, edit_range w (guarded_at on p) at k (length_guards on p ∙ n) h)

-- whole rows are none, or one at least
pub whole_rows : {w : ℕ} → Width w → (top bottom : ℕ) (p : List ℕ) → top ≤ bottom → bottom * w ≤ length p
    → let q = take (bottom * w - top * w) (drop (top * w) p) in (length q ≡ 0) ⊎ (w ≤ length q)
whole_rows {w} k top bottom p h n =
    let m = mid_len (top * w) (bottom * w) p n in
    ⊎_elim
    (λ e. inl (m ∙ rw e (omega arith)))
    (λ e. inr (omega (arith, m, suc-mul top w, rows_le k {a = suc top} {b = bottom} e)))
    (eq-or-lt_of_le h)

pub wide_columns : {wide : Bool} → wide ≡ true → columns wide ≡ 132
unfolding columns
wide_columns e = rw e

pub narrow_columns : {wide : Bool} → wide ≡ false → columns wide ≡ 80
unfolding columns
narrow_columns e = rw e

-- the rows `top` up to `bottom` are lent, and come back moved by k cells, which is one row
pub rows_lent : (wide : Bool) {k a e : ℕ} → columns wide ≡ k → (top bottom : ℕ) → a ≡ top * columns wide → e ≡ bottom * columns wide → (p : List ℕ)
    → top ≤ bottom → bottom * columns wide ≤ length p → (length (take (e - a) (drop a p)) ≡ 0) ⊎ (k ≤ length (take (e - a) (drop a p)))
rows_lent wide n top bottom i j p r m = rw (← n, i, j) (whole_rows (columns_width wide) top bottom p r m)

module _ (wide down : Bool) {k a e : ℕ} (n : columns wide ≡ k) (top bottom : ℕ) (i : a ≡ top * columns wide) (j : e ≡ bottom * columns wide) (p : List ℕ) where
  pub rows_moved : {q : List ℕ} → q ≡ shifted down k space (take (e - a) (drop a p))
      → put_mid a (e - a) p q ≡ rows_shifted (columns wide) down top bottom p
  unfolding rows_shifted
  rows_moved h = lent a e (shifted down k space) p h ∙ rw (i, j, ← n)

-- ---- one row of a column

pub column_step : (w : ℕ) (on : Bool) (v column row bottom : ℕ) (p : List ℕ) → row < bottom
    → column_filled w on v column (bottom - row) row p
    ≡ column_filled w on v column (bottom - (row + 1)) (row + 1) (within (row * w + column) (row * w + column + 1) (filled on v) p)
unfolding column_filled
column_step w on v column row bottom p h =
    let e : bottom - row ≡ suc (bottom - (row + 1)) = omega arith in
    rw (e, add-one)
