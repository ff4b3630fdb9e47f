-- Searches by the row list.
--     first_here, first_later              a search in two parts
--     row_none, row_some                   a search in one row, by the row's numbers
--     column_none, column_some             the column of the first open cell
--     row_inside                           where a cell's row lies
--     row_skipped, row_known, row_found, row_missing, here_found, here_none     settling by the list
-- Assumes nothing.
use mathlib.Core.Path.{◌≡◌, refl, sym, ap, ◌∙◌}
use mathlib.Core.Bool.{Bool, true, false}
use mathlib.Core.List.{List, [], ◌∷◌, ◌++◌}
use mathlib.Core.Logic.{⊎_elim}
use Prim.Native.Nat.{ℕ, zero, suc, ◌+◌, ◌-◌, ◌*◌, ◌/◌, ◌≤◌, ◌<◌}
use native.Mathlib.Nat.{add-zero, suc-mul, mul-le-mul_right}
use native.Mathlib.Numerals.{add-one}
use native.Mathlib.Omega.{arith}
use lib.Dec.{ltb}
use lib.ListN.{length, get_or, take, drop, length-drop}
use lib.Seq.{slice, length-take-le, take_all, take-add, drop_at, drop-append-le, length-slice}
use borrow.Author.Tests.{lt-ltb, le-ltb, eq-eqb, ne_eqb}
use Rattle.rules.specs.Cell.{pick}
use Rattle.rules.specs.Row.{Width, row_end}
use Rattle.rules.specs.Search.{others, first_true, first_in}
use Rattle.rules.specs.RowList.{open_count, first_column, row_list}
use Rattle.page.specs.RowList.{row_at, RowAt, FirstRow}
use Rattle.rules.proofs.Rows.{by_width, page_small}
use Rattle.rules.proofs.Searching.{length_others, first_none}
use Rattle.page.proofs.RowList.{numbers_at, below_or_not}

-- ---- a search in two parts

first_append : (at : ℕ) (x y : List Bool)
    → first_true at (x ++ y) ≡ pick (ltb (first_true at x) (at + length x)) (first_true at x) (first_true (at + length x) y)
first_append at [] y = rw (add-zero, le-ltb at at (omega arith))
first_append at (true ∷ x) y = rw (lt-ltb at (at + suc (length x)) (omega arith))
first_append at (false ∷ x) y =
    let e : suc at + length x ≡ at + suc (length x) = omega arith in
    first_append (suc at) x y ∙ rw e

slice_append : (m : List Bool) (a b e : ℕ) → a ≤ b → b ≤ e → e ≤ length m → slice a e m ≡ slice a b m ++ slice b e m
slice_append m a b e h i k =
    let n : e ≡ b + (e - b) = omega arith in
    let size : length (take b m) ≡ b = length-take-le b m (omega arith) in
    let cut : take e m ≡ take b m ++ take (e - b) (drop b m) = ap (λ (j : ℕ). take j m) n ∙ take-add b (e - b) m in
    let late : slice b e m ≡ take (e - b) (drop b m) = ap (drop b) cut ∙ drop_at (take b m) _ b size in
    ap (drop a) cut ∙ drop-append-le a (take b m) _ (omega arith) ∙ ap (λ (x : List Bool). slice a b m ++ x) (sym late)

module _ (m : List Bool) (a b e : ℕ) (h : a ≤ b) (i : b ≤ e) (k : e ≤ length m) where
  first_parts : first_in m a e ≡ pick (ltb (first_in m a b) b) (first_in m a b) (first_in m b e)
  unfolding first_in
  first_parts =
      let n : a + length (slice a b m) ≡ b = omega (arith, length-slice a b m (omega arith)) in
      ap (first_true a) (slice_append m a b e h i k) ∙ first_append a (slice a b m) (slice b e m) ∙ rw n

  pub first_here : first_in m a b < b → first_in m a e ≡ first_in m a b
  first_here l = first_parts ∙ rw (lt-ltb (first_in m a b) b l)

  pub first_later : b ≤ first_in m a b → first_in m a e ≡ first_in m b e
  first_later l = first_parts ∙ rw (le-ltb (first_in m a b) b l)

-- ---- a search in one row

none_open : (at : ℕ) (r : List Bool) → open_count r ≡ 0 → first_true at (others r) ≡ at + length r
unfolding others
none_open at [] e = omega arith
none_open at (true ∷ r) e = omega (arith, none_open (suc at) r e)
none_open at (false ∷ r) e = absurd (omega (arith, e))

some_open : (at : ℕ) (r : List Bool) → (open_count r ≡ 0 → ⊥) → first_true at (others r) < at + length r
unfolding others
some_open at [] n = absurd (n refl)
some_open at (true ∷ r) n = omega (arith, some_open (suc at) r n)
some_open at (false ∷ r) n = omega arith

-- counted from another number
pub first_shift : (at : ℕ) (m : List Bool) → first_true at m ≡ at + first_true 0 m
first_shift at m = ap (λ (i : ℕ). first_true i m) (sym (add-zero at)) ∙ by at 0 m
  where
    by : (at n : ℕ) (m : List Bool) → first_true (at + n) m ≡ at + first_true n m
    by at n [] = refl
    by at n (true ∷ m) = refl
    by at n (false ∷ m) = let e : suc (at + n) ≡ at + suc n = omega arith in ap (λ (i : ℕ). first_true i m) e ∙ by at (suc n) m

others_take : (n : ℕ) (g : List Bool) → take n (others g) ≡ others (take n g)
unfolding others
others_take zero g = refl
others_take (suc n) [] = refl
others_take (suc n) (b ∷ g) = ap (λ (t : List Bool). mathlib.Core.Bool.not b ∷ t) (others_take n g)

others_drop : (n : ℕ) (g : List Bool) → drop n (others g) ≡ others (drop n g)
unfolding others
others_drop zero g = refl
others_drop (suc n) [] = refl
others_drop (suc n) (b ∷ g) = others_drop n g

-- row k, of the width w, in the page
module _ (w : ℕ) (g : List Bool) (k : ℕ) (fits : k * w + w ≤ length g) where
  row_length : length (row_at w g k) ≡ w
  row_length = length-take-le w (drop (k * w) g) (omega (arith, length-drop (k * w) g))

  row_first : first_in (others g) (k * w) (k * w + w) ≡ first_true (k * w) (others (row_at w g k))
  unfolding first_in
  row_first =
      let m = others g in
      let size : length (take (k * w) m) ≡ k * w = length-take-le (k * w) m (omega (arith, length_others g)) in
      ap (first_true (k * w))
      (ap (drop (k * w)) (take-add (k * w) w m) ∙ drop_at (take (k * w) m) _ (k * w) size
      ∙ ap (take w) (others_drop (k * w) g) ∙ others_take w (drop (k * w) g))

  module _ {l : List ℕ} (r : RowAt w g l k) where
    pub row_none : get_or l (2 * k) 0 ≡ 0 → first_in (others g) (k * w) (k * w + w) ≡ k * w + w
    row_none e = row_first ∙ none_open (k * w) (row_at w g k) (sym r.count ∙ e) ∙ ap (λ (i : ℕ). k * w + i) row_length

    pub row_some : (get_or l (2 * k) 0 ≡ 0 → ⊥)
        → (1 ≤ get_or l (2 * k + 1) 0) × ((first_in (others g) (k * w) (k * w + w) ≡ k * w + (get_or l (2 * k + 1) 0 - 1)) × (get_or l (2 * k + 1) 0 ≤ w))
    unfolding first_column
    row_some n =
        let x = row_at w g k in
        let c : open_count x ≡ 0 → ⊥ = λ e. n (r.count ∙ e) in
        let f : get_or l (2 * k + 1) 0 ≡ first_true 1 (others x) = r.first ∙ rw (ne_eqb (open_count x) 0 c) in
        let s = some_open (k * w) x c in
        omega (arith, row_first, row_length, first_shift 1 (others x), first_shift (k * w) (others x))

-- ---- the column of the first open cell

pub column_none : (g : List Bool) → open_count g ≡ 0 → 0 ≡ first_column g
unfolding first_column
column_none g e = rw (eq-eqb (open_count g) 0 e)

pub column_some : (g : List Bool) (e : ℕ) → length g ≡ e → (open_count g ≡ 0 → ⊥) → {n : ℕ} → n ≡ first_in (others g) 0 e → n + 1 ≡ first_column g
unfolding first_column first_in
column_some g e k c {n} h =
    let t : first_in (others g) 0 e ≡ first_true 0 (others g) = ap (first_true 0) (take_all e (others g) (omega (arith, length_others g))) in
    rw (ne_eqb (open_count g) 0 c) (omega (arith, h, t, first_shift 1 (others g)))

-- ---- settling by the list

pub record Span (w from : ℕ) : Type 0 where
  pub start : from / w * w ≤ from
  pub stop : from < from / w * w + w
  pub end : row_end w from ≡ from / w * w + w
  pub inside : from / w * w + w ≤ 24 * w
  pub row : from / w < 24

pub row_span : {w : ℕ} → Width w → (from : ℕ) → from < 24 * w → Span w from
unfolding row_end
row_span k from h =
    by_width (λ (w : ℕ). from < 24 * w → Span w from)
    (λ h. record { start = omega arith; stop = omega arith; end = omega arith; inside = omega arith; row = omega arith })
    (λ h. record { start = omega arith; stop = omega arith; end = omega arith; inside = omega arith; row = omega arith })
    k h

module _ {w : ℕ} (width : Width w) (g : List Bool) (long : length g ≡ 24 * w) {l : List ℕ} (list : l ≡ row_list w g) where
  row_right : (k : ℕ) → k < 24 → RowAt w g l k
  row_right k h = rw list (numbers_at w 24 g k h)

  -- the row of a cell has none
  pub row_skipped : (from : ℕ) → from < 24 * w → get_or l (2 * (from / w)) 0 ≡ 0 → row_end w from ≡ first_in (others g) from (row_end w from)
  row_skipped from h e =
      let s = row_span width from h in
      let k = from / w in
      let m = others g in
      let none : first_in m (k * w) (k * w + w) ≡ k * w + w =
      row_none w g k (omega (arith, s.inside)) (row_right k s.row) e in
      let size : k * w + w ≤ length m = omega (arith, length_others g, s.inside) in
      let late : from ≤ first_in m (k * w) from = ⊎_elim
      (λ b. absurd (omega (arith, first_here m (k * w) from (k * w + w) s.start (omega (arith, s.stop)) size b, none, s.stop)))
      (λ b. b) (below_or_not (first_in m (k * w) from) from) in
      rw s.end (sym none ∙ first_later m (k * w) from (k * w + w) s.start (omega (arith, s.stop)) size late)

  -- the row of a cell has one: its first column, and the search from a cell before it
  pub row_known : (from : ℕ) → from < 24 * w → {k : ℕ} → k ≡ from / w → (get_or l (2 * k) 0 ≡ 0 → ⊥)
      → let f = get_or l (2 * k + 1) 0 in let first = k * w + f - 1 in
      (1 ≤ f) × ((f ≤ w) × (from ≤ first → first ≡ first_in (others g) from (row_end w from)))
  row_known from h e n = rw e (known (rw e at n))
    where
      known : (get_or l (2 * (from / w)) 0 ≡ 0 → ⊥)
          → let f = get_or l (2 * (from / w) + 1) 0 in let first = from / w * w + f - 1 in
          (1 ≤ f) × ((f ≤ w) × (from ≤ first → first ≡ first_in (others g) from (row_end w from)))
      known n =
          let s = row_span width from h in
          let k = from / w in
          let m = others g in
          let some = row_some w g k (omega (arith, s.inside)) (row_right k s.row) n in
          let size : k * w + w ≤ length m = omega (arith, length_others g, s.inside) in (
            some.0,
            (
              some.1.1,
              λ b.
                  let late : from ≤ first_in m (k * w) from = ⊎_elim
                  (λ c. absurd (omega (arith, first_here m (k * w) from (k * w + w) s.start (omega (arith, s.stop)) size c, some, b)))
                  (λ c. c) (below_or_not (first_in m (k * w) from) from) in
                  rw s.end (omega (arith, some, first_later m (k * w) from (k * w + w) s.start (omega (arith, s.stop)) size late)),
            ),
          )

  module _ (bottom : ℕ) (most : bottom ≤ 24) where
    rows_inside : bottom * w ≤ length (others g)
    rows_inside = omega (arith, mul-le-mul_right w most, length_others g, long)

    skipped_rows : (n a : ℕ) → a + n ≤ bottom → ((k : ℕ) → a ≤ k → k < a + n → get_or l (2 * k) 0 ≡ 0)
        → first_in (others g) (a * w) (bottom * w) ≡ first_in (others g) ((a + n) * w) (bottom * w)
    skipped_rows zero a h none = rw add-zero
    skipped_rows (suc n) a h none =
        let m = others g in
        let next : suc a * w ≤ bottom * w = mul-le-mul_right w (omega arith) in
        let e : suc a * w ≡ a * w + w = suc-mul a w in
        let i : suc a + n ≡ a + suc n = omega arith in
        let z = row_none w g a (omega (arith, rows_inside, length_others g)) (row_right a (omega arith)) (none a (omega arith) (omega arith)) in
        first_later m (a * w) (a * w + w) (bottom * w) (omega arith) (omega arith) rows_inside (omega (arith, z))
        ∙ ap (λ (j : ℕ). first_in m j (bottom * w)) (sym e)
        ∙ skipped_rows n (suc a) (omega arith) (λ k b c. none k (omega arith) (omega arith))
        ∙ ap (λ (j : ℕ). first_in m (j * w) (bottom * w)) i

    module _ {a r : ℕ} (f : FirstRow l a bottom r) where
      to_row : first_in (others g) (a * w) (bottom * w) ≡ first_in (others g) (r * w) (bottom * w)
      to_row =
          let e : a + (r - a) ≡ r = omega (arith, f.from) in
          skipped_rows (r - a) a (omega (arith, f.from, f.most)) (λ k b c. f.none k b (omega (arith, f.from)))
          ∙ ap (λ (j : ℕ). first_in (others g) (j * w) (bottom * w)) e

      pub row_found : r < bottom
          → (1 ≤ get_or l (2 * r + 1) 0) × ((get_or l (2 * r + 1) 0 ≤ w) × (r * w + get_or l (2 * r + 1) 0 - 1 ≡ first_in (others g) (a * w) (bottom * w)))
      row_found h =
          let m = others g in
          let next : suc r * w ≤ bottom * w = mul-le-mul_right w (omega arith) in
          let e : suc r * w ≡ r * w + w = suc-mul r w in
          let s = row_some w g r (omega (arith, rows_inside, length_others g)) (row_right r (omega arith)) (f.some h) in
          let t = first_here m (r * w) (r * w + w) (bottom * w) (omega arith) (omega arith) rows_inside (omega (arith, s)) in
          (s.0, (s.1.1, omega (arith, s, t, to_row)))

      pub row_missing : bottom ≤ r → bottom * w ≡ first_in (others g) (a * w) (bottom * w)
      row_missing h =
          let e : r ≡ bottom = omega (arith, f.most) in
          sym (to_row ∙ ap (λ (j : ℕ). first_in (others g) (j * w) (bottom * w)) e ∙ first_none (others g) (bottom * w))

    -- from a cell on: its row first
    module _ (from : ℕ) (inside : from < bottom * w) where
      pub cell_inside : from < 24 * w
      cell_inside = omega (arith, mul-le-mul_right w most)

      span : Span w from
      span = row_span width from cell_inside

      pub row_below : from / w + 1 ≤ bottom
      row_below = below width inside
        where
          below : {w : ℕ} → Width w → from < bottom * w → from / w + 1 ≤ bottom
          below k = by_width (λ (w : ℕ). from < bottom * w → from / w + 1 ≤ bottom) (λ h. omega arith) (λ h. omega arith) k

      next_row : (from / w + 1) * w ≡ from / w * w + w
      next_row = rw add-one (suc-mul (from / w) w)

      stops : row_end w from ≤ bottom * w
      stops = omega (arith, span.end, next_row, mul-le-mul_right w row_below)

      module _ {here : ℕ} (e : here ≡ first_in (others g) from (row_end w from)) where
        pub here_found : here < row_end w from → here ≡ first_in (others g) from (bottom * w)
        here_found h = e ∙ sym
            (first_here (others g) from (row_end w from) (bottom * w) (omega (arith, span.stop, span.end)) stops rows_inside (omega arith))

        pub here_none : row_end w from ≤ here → first_in (others g) ((from / w + 1) * w) (bottom * w) ≡ first_in (others g) from (bottom * w)
        here_none h =
            let i : (from / w + 1) * w ≡ row_end w from = next_row ∙ sym span.end in
            ap (λ (j : ℕ). first_in (others g) j (bottom * w)) i
            ∙ sym (first_later (others g) from (row_end w from) (bottom * w) (omega (arith, span.stop, span.end)) stops rows_inside (omega arith))

-- a cell's row lies in the page
pub row_inside : {w : ℕ} → Width w → (from : ℕ) → from < 24 * w → {k : ℕ} → k ≡ from / w → (k < 24) × (k * w + w ≤ 3168)
row_inside width from h e = let s = row_span width from h in rw e (s.row, omega (arith, s.inside, page_small width))

-- the rows of a segment
pub segment_rows : {w : ℕ} → Width w → (end : ℕ) → end ≤ 24 * w → end / w ≤ 24
segment_rows k end h = by_width (λ (w : ℕ). end ≤ 24 * w → end / w ≤ 24) (λ h. omega arith) (λ h. omega arith) k h
