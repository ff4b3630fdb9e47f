-- Laws of a page that is mended cell by cell.
--     damaged_next, entries_append, entries_size     the cells that are not writable, and their entries, four numbers each
--     count_none, count_next, count_all              how many they are, of all cells and up to a place
--     cell_stays, cell_changes                       one cell
--     going_begins, going_next, going_done           the loop that mends the page and lists them
-- Assumes nothing.
use mathlib.Core.Path.{◌≡◌, refl, sym, ap, ◌∙◌}
use mathlib.Core.Bool.{Bool, true, false, not}
use mathlib.Core.List.{List, [], ◌∷◌, ◌++◌, map-append, append_assoc, append-nil}
use Prim.Native.Nat.{ℕ, suc, ◌+◌, ◌*◌, ◌≤◌, ◌<◌}
use native.Mathlib.Nat.{zero-add, add-zero, le_of_suc-le-suc, not-suc-le-zero}
use native.Mathlib.Numerals.{add-one}
use native.Mathlib.Omega.{arith}
use mir.Val.{bool_byte}
use lib.ListN.{length, get_or, set, take, drop, length-append, length-map, length-drop, take-append-drop, drop_of_length-le}
use lib.Seq.{sets, take-suc, drop-cons, take_all, set_at, set-get_or, get_or_at, append_snoc, length-take-le}
use Rattle.rules.specs.declared.Personality.{Personality}
use Rattle.rules.specs.Cell.{pick, null}
use Rattle.rules.specs.Row.{row_of, column_of}
use Rattle.rules.specs.Room.{over}
use Rattle.rules.specs.Writable.{writable}
use Rattle.mend.specs.Mend.{mended_cell, mended, damaged, numbers, entry, entries, CellMended}

-- ---- the cells that are not writable

pub damaged_append : (m : Personality) (p : List ℕ) (q : List ℕ) (at : ℕ) → damaged m at (p ++ q) ≡ damaged m at p ++ damaged m (at + length p) q
unfolding damaged
damaged_append m [] q at = rw (add-zero at)
damaged_append m (v ∷ p) q at =
    let e : at + suc (length p) ≡ suc at + length p = omega arith in
    rw (e, damaged_append m p q (suc at)) (by (writable m v))
  where
    by : (t : Bool)
        → pick t (damaged m (suc at) p ++ damaged m (suc at + length p) q) ((at, v) ∷ (damaged m (suc at) p ++ damaged m (suc at + length p) q))
        ≡ pick t (damaged m (suc at) p) ((at, v) ∷ damaged m (suc at) p) ++ damaged m (suc at + length p) q
    by true = refl
    by false = refl

-- those of the cells below i + 1
pub damaged_next : (m : Personality) (p : List ℕ) (i : ℕ) → i < length p
    → damaged m 0 (take (i + 1) p) ≡ damaged m 0 (take i p) ++ damaged m i (get_or p i 0 ∷ [])
damaged_next m p i h =
    let n : 0 + length (take i p) ≡ i = zero-add _ ∙ length-take-le i p (omega arith) in
    rw (add-one i, take-suc p i 0 h, damaged_append m (take i p) (get_or p i 0 ∷ []) 0, n)

-- and of those below i there are not more than of all
pub damaged_within : (m : Personality) (p : List ℕ) (i : ℕ) → length (damaged m 0 (take i p)) ≤ length (damaged m 0 p)
damaged_within m p i =
    let e : damaged m 0 p ≡ damaged m 0 (take i p) ++ damaged m (0 + length (take i p)) (drop i p) =
    ap (damaged m 0) (sym (take-append-drop i p)) ∙ damaged_append m (take i p) (drop i p) 0 in
    rw (e, length-append) (omega arith)

-- at most one for each cell
pub damaged_size : (m : Personality) (p : List ℕ) (at : ℕ) → length (damaged m at p) ≤ length p
unfolding damaged
damaged_size m [] at = omega arith
damaged_size m (v ∷ p) at = by (writable m v) (damaged_size m p (suc at))
  where
    by : (t : Bool) → length (damaged m (suc at) p) ≤ length p
        → length (pick t (damaged m (suc at) p) ((at, v) ∷ damaged m (suc at) p)) ≤ suc (length p)
    by true h = omega arith
    by false h = omega arith

-- one cell
pub one_writable : (m : Personality) (at v : ℕ) → writable m v ≡ true → damaged m at (v ∷ []) ≡ []
unfolding damaged
one_writable m at v e = rw e

pub one_damaged : (m : Personality) (at v : ℕ) → writable m v ≡ false → damaged m at (v ∷ []) ≡ (at, v) ∷ []
unfolding damaged
one_damaged m at v e = rw e

-- ---- how many they are

-- what a cell adds to the count
pub bit_most : (t : Bool) → bool_byte t ≤ 1
bit_most true = omega arith
bit_most false = omega arith

pub bit_added : (t : Bool) (n : ℕ) → n + bool_byte (not t) ≡ pick t n (n + 1)
bit_added true n = add-zero n
bit_added false n = refl

pub count_none : (m : Personality) (p : List ℕ) → 0 ≡ length (damaged m 0 (take 0 p))
unfolding damaged
count_none m p = refl

one_more : (t : Bool) (d : List (ℕ × ℕ)) (c : ℕ × ℕ) → pick t (length d) (length d + 1) ≡ length (d ++ pick t [] (c ∷ []))
one_more true d c = rw (append-nil d)
one_more false d c = rw (length-append d (c ∷ []))

module _ (m : Personality) (p : List ℕ) (i : ℕ) {n : ℕ} (e : n ≡ length (damaged m 0 (take i p))) where
  pub count_below : i ≤ length p → n ≤ i
  count_below h = omega (arith, e, damaged_size m (take i p) 0, length-take-le i p h)

  pub count_next : {t : Bool} {n' : ℕ} → i < length p → t ≡ writable m (get_or p i 0) → n' ≡ pick t n (n + 1)
      → n' ≡ length (damaged m 0 (take (i + 1) p))
  unfolding damaged
  count_next h f g = g ∙ rw (f, e, damaged_next m p i h) (one_more (writable m (get_or p i 0)) (damaged m 0 (take i p)) (i, get_or p i 0))

pub count_all : (m : Personality) (p : List ℕ) (i : ℕ) {n : ℕ} → n ≡ length (damaged m 0 (take i p)) → length p ≤ i → n ≡ length (damaged m 0 p)
count_all m p i e h = rw (take_all i p h) at e

-- ---- their entries

pub entries_append : (w : ℕ) (a b : List (ℕ × ℕ)) → entries w (a ++ b) ≡ entries w a ++ entries w b
unfolding entries
entries_append w [] b = refl
entries_append w (c ∷ a) b = rw (entries_append w a b) (sym (append_assoc (entry w c) (entries w a) (entries w b)))

pub entries_size : (w : ℕ) (a : List (ℕ × ℕ)) → length (entries w a) ≡ 4 * length a
unfolding entries
entries_size w [] = refl
entries_size w (c ∷ a) = let e = entries_size w a in omega arith

-- numbers at the front of a list, and more of them behind
length_over : (t w : List ℕ) → length t ≤ length w → length (over t w) ≡ length w
unfolding over
length_over [] w h = refl
length_over (x ∷ t) [] h = absurd (not-suc-le-zero h)
length_over (x ∷ t) (y ∷ w) h = ap suc (length_over t w (le_of_suc-le-suc h))

over_set : (t w : List ℕ) (b : ℕ) → length t < length w → set (over t w) (length t) b ≡ over (t ++ b ∷ []) w
unfolding over
over_set [] [] b h = absurd (not-suc-le-zero h)
over_set [] (y ∷ w) b h = refl
over_set (x ∷ t) [] b h = absurd (not-suc-le-zero h)
over_set (x ∷ t) (y ∷ w) b h = ap {B = List ℕ} (λ l. x ∷ l) (over_set t w b (le_of_suc-le-suc h))

over_sets : (a b l : List ℕ) (n : ℕ) → length a ≡ n → n + length b ≤ length l → sets (over a l) n b ≡ over (a ++ b) l
over_sets a [] l n e h = rw (append-nil a)
over_sets a (x ∷ b) l n e h =
    let s : set (over a l) n x ≡ over (a ++ x ∷ []) l = rw (← e) (over_set a l x (omega arith)) in
    let k : length (a ++ x ∷ []) ≡ suc n = length-append a (x ∷ []) ∙ omega arith in
    ap (λ (z : List ℕ). sets z (suc n) b) s ∙ over_sets (a ++ x ∷ []) b l (suc n) k (omega arith) ∙ ap (λ (z : List ℕ). over z l) (append_snoc a x b)

-- ---- one cell

pub put_numbers : (l : List ℕ) (at row column old : ℕ)
    → set (set (set (set l at row) (at + 1) column) (at + 2) old) (at + 3) null ≡ sets l at (numbers row column old)
put_numbers l at row column old =
    let a : at + 1 ≡ suc at = omega arith in
    let b : at + 2 ≡ suc (suc at) = omega arith in
    let c : at + 3 ≡ suc (suc (suc at)) = omega arith in
    rw (a, b, c)

module _ (m : Personality) (w at n : ℕ) (p l : List ℕ) where
  pub cell_stays : writable m (get_or p at 0) ≡ true → CellMended m w at n p l n p l
  unfolding entries
  cell_stays e =
      let d = one_writable m at (get_or p at 0) e in
      let c : p ≡ set p at (mended_cell m (get_or p at 0)) = rw e (sym (set-get_or p at 0)) in
      record { cell = c; listed = rw d; count = rw d (sym (add-zero n)) }

  module _ (e : writable m (get_or p at 0) ≡ false) where
    entries_one : entries w (damaged m at (get_or p at 0 ∷ [])) ≡ entry w (at, get_or p at 0)
    unfolding entries
    entries_one = rw (one_damaged m at (get_or p at 0) e)

    pub room_for_one : {k : ℕ} → 4 * n + length (entries w (damaged m at (get_or p at 0 ∷ []))) ≤ k → 4 * n + 4 ≤ k
    room_for_one h = rw entries_one at h

    pub cell_changes : {row column : ℕ} {l' : List ℕ} → row ≡ row_of w at + 1 → column ≡ column_of w at + 1
        → l' ≡ sets l (4 * n) (numbers row column (get_or p at 0)) → CellMended m w at n p l (n + 1) (set p at null) l'
    cell_changes {row} {column} r c k =
        let x : sets l (4 * n) (numbers row column (get_or p at 0)) ≡ sets l (4 * n) (entries w (damaged m at (get_or p at 0 ∷ []))) =
        rw (r, c, entries_one) in
        record { cell = rw e; listed = k ∙ x; count = rw (one_damaged m at (get_or p at 0) e) }

-- ---- the loop

-- of the page p and the list l, which has room for all entries: i cells are mended and n listed, which makes them q and k
pub record Going (m : Personality) (w : ℕ) (p l : List ℕ) (i n : ℕ) (q k : List ℕ) : Type 0 where
  pub room : 4 * length (damaged m 0 p) ≤ length l
  pub within : i ≤ length p
  pub cells : q ≡ mended m (take i p) ++ drop i p
  pub listed : k ≡ over (entries w (damaged m 0 (take i p))) l
  pub count : n ≡ length (damaged m 0 (take i p))

pub going_begins : (m : Personality) (w : ℕ) (p l : List ℕ) → 4 * length (damaged m 0 p) ≤ length l → Going m w p l 0 0 p l
unfolding mended damaged entries over
going_begins m w p l h = record { room = h; within = omega arith; cells = refl; listed = refl; count = refl }

module _ {m : Personality} {w : ℕ} {p l : List ℕ} {i n : ℕ} {q k : List ℕ} (g : Going m w p l i n q k) where
  entries_fit : (j : ℕ) → length (entries w (damaged m 0 (take j p))) ≤ length l
  entries_fit j = rw (entries_size w (damaged m 0 (take j p))) (omega (arith, g.room, damaged_within m p j))

  front : length (mended m (take i p)) ≡ i
  unfolding mended
  front = length-map (take i p) (mended_cell m) ∙ length-take-le i p g.within

  pub going_list : length k ≡ length l
  going_list = rw g.listed (length_over (entries w (damaged m 0 (take i p))) l (entries_fit i))

  pub going_page : length q ≡ length p
  going_page = rw (g.cells, length-append (mended m (take i p)) (drop i p), front) (omega (arith, g.within, length-drop i p))

  -- at most one for each cell
  pub going_count : n ≤ i
  going_count = count_below m p i g.count g.within

  module _ (b : i < length q) where
    h : i < length p
    h = omega (arith, b, going_page)

    -- the next cell is as it was
    next_cell_lem : get_or q i 0 ≡ get_or p i 0
    next_cell_lem = rw (g.cells, drop-cons p i 0 h) (get_or_at (mended m (take i p)) (get_or p i 0) (drop (suc i) p) 0 i front)

    abbrev more : List ℕ
    more = entries w (damaged m i (get_or q i 0 ∷ []))

    more_entries : entries w (damaged m 0 (take (i + 1) p)) ≡ entries w (damaged m 0 (take i p)) ++ more
    more_entries = rw (damaged_next m p i h, next_cell_lem) (entries_append w (damaged m 0 (take i p)) (damaged m i (get_or p i 0 ∷ [])))

    more_size : 4 * n + length more ≡ length (entries w (damaged m 0 (take (i + 1) p)))
    more_size = rw (more_entries, length-append (entries w (damaged m 0 (take i p))) more, entries_size w (damaged m 0 (take i p)), g.count)

    pub going_fits : 4 * n + length (entries w (damaged m i (get_or q i 0 ∷ []))) ≤ length k
    going_fits = rw (more_size, going_list) (entries_fit (i + 1))

    mended_next : mended m (take (i + 1) p) ≡ mended m (take i p) ++ mended_cell m (get_or p i 0) ∷ []
    unfolding mended
    mended_next = rw (add-one i, take-suc p i 0 h) (map-append (mended_cell m) (take i p) (get_or p i 0 ∷ []))

    cells_next : set q i (mended_cell m (get_or q i 0)) ≡ mended m (take (i + 1) p) ++ drop (i + 1) p
    cells_next =
        rw (next_cell_lem, g.cells, drop-cons p i 0 h, mended_next, add-one i)
        (set_at (mended m (take i p)) (get_or p i 0) (drop (suc i) p) (mended_cell m (get_or p i 0)) i front
        ∙ sym (append_snoc (mended m (take i p)) (mended_cell m (get_or p i 0)) (drop (suc i) p)))

    listed_next : sets k (4 * n) more ≡ over (entries w (damaged m 0 (take (i + 1) p))) l
    listed_next =
        let e : length (entries w (damaged m 0 (take i p))) ≡ 4 * n = entries_size w (damaged m 0 (take i p))
        ∙ ap (λ (x : ℕ). 4 * x) (sym g.count) in
        ap (λ (z : List ℕ). sets z (4 * n) more) g.listed
        ∙ over_sets (entries w (damaged m 0 (take i p))) more l (4 * n) e (rw more_size (entries_fit (i + 1)))
        ∙ ap (λ (z : List ℕ). over z l) (sym more_entries)

    more_counted : n + length (damaged m i (get_or q i 0 ∷ [])) ≡ length (damaged m 0 (take (i + 1) p))
    more_counted = rw (damaged_next m p i h, next_cell_lem, length-append (damaged m 0 (take i p)) (damaged m i (get_or p i 0 ∷ [])), ← g.count)

    pub going_next : {n' : ℕ} {q' k' : List ℕ} → CellMended m w i n q k n' q' k' → Going m w p l (i + 1) n' q' k'
    going_next c = record {
      room = g.room;
      within = omega (arith, h);
      cells = c.cell ∙ cells_next;
      listed = c.listed ∙ listed_next;
      count = c.count ∙ more_counted;
    }

  pub going_done : length q ≤ i → (q ≡ mended m p) × (k ≡ over (entries w (damaged m 0 p)) l)
  going_done b =
      let h : length p ≤ i = omega (arith, b, going_page) in
      let t : take i p ≡ p = take_all i p h in
      let d : drop i p ≡ [] = drop_of_length-le p h in
      (g.cells ∙ rw (t, d) (append-nil (mended m p)), g.listed ∙ rw t)
