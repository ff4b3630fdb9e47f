-- The rows that a write does not touch.
--     touched_range     the rows that it touches lie in the page
--     row_small         a row, by a cell of it
--     others_kept       the row list has the numbers of the others
-- Assumes nothing.
use Rattle.std.specs.Prelude.{◌≡◌, ℕ, ◌+◌, ◌-◌, ◌*◌, ◌/◌, ◌<◌, ◌≤◌, Bool, ◌⊎◌, List, ◌++◌, length, get_or, take, drop}
use mathlib.Core.Path.{refl, sym, ap, ◌∙◌}
use mathlib.Core.Logic.{inl, inr, ⊎_elim}
use native.Mathlib.Nat.{zero-mul, suc-mul, mul-le-mul_right}
use native.Mathlib.Numerals.{add-one}
use native.Mathlib.Omega.{arith}
use lib.ListN.{length-take, length-drop, get_or-append}
use lib.Seq.{length-take-le, get_or-take, get_or-drop, get_or-append-add, ext_get_or}
use Rattle.rules.specs.declared.Write.{Write}
use Rattle.rules.specs.Row.{Width, row_end}
use Rattle.rules.specs.Search.{guarded_at, edit_end}
use Rattle.rules.specs.Change.{within, filled, shifted, edit_shifted}
use Rattle.rules.specs.Theorems.Good.{GoodWrite}
use Rattle.rules.specs.Carry.{applied}
use Rattle.rules.specs.RowList.{open_count, first_column, row_list}
use Rattle.rules.proofs.Rows.{by_width}
use Rattle.rules.proofs.Searching.{length_guards, first_range}
use Rattle.rules.proofs.Lengths.{length_filled, length_shifted, length_applied}
use Rattle.page.specs.RowList.{row_at, AllBut}
use Rattle.page.proofs.RowList.{guards_part, numbers_at}
use Rattle.page.proofs.RowSearch.{row_span}
use Rattle.carry.specs.Rows.{touched_top, touched_bottom}

-- a cell's row is no greater than the cell
pub row_small : {w r at : ℕ} → Width w → r ≡ at / w → r ≤ at
row_small {at = at} k e = rw e (by_width (λ (w : ℕ). at / w ≤ at) (omega arith) (omega arith) k)

-- ---- cells

module _ (a e : ℕ) (f : List ℕ → List ℕ) (keeps : (l : List ℕ) → length (f l) ≡ length l) (p : List ℕ) (h : a ≤ e) (k : e ≤ length p) where
  front : length (take a p) ≡ a
  front = length-take-le a p (omega arith)

  middle : length (f (take (e - a) (drop a p))) ≡ e - a
  middle = keeps (take (e - a) (drop a p)) ∙ length-take-le (e - a) (drop a p) (omega (arith, length-drop a p))

  outside : (j : ℕ) → (j < a) ⊎ (e ≤ j) → get_or (within a e f p) j 0 ≡ get_or p j 0
  unfolding within
  outside j o =
      let m = f (take (e - a) (drop a p)) in
      let z = drop (e - a) (drop a p) in
      ⊎_elim
      (λ b. get_or-append (take a p) (m ++ z) 0 j (omega (arith, front)) ∙ get_or-take a p j 0 b)
      (λ b.
      let i : j ≡ length (take a p) + (length m + (j - e)) = omega (arith, front, middle) in
      let n : a + (e - a + (j - e)) ≡ j = omega arith in
      ap (λ (x : ℕ). get_or (take a p ++ (m ++ z)) x 0) i ∙ get_or-append-add (take a p) (m ++ z) (length m + (j - e)) 0
      ∙ get_or-append-add m z (j - e) 0 ∙ get_or-drop (e - a) (drop a p) (j - e) 0 ∙ get_or-drop a p (e - a + (j - e)) 0
      ∙ ap (λ (x : ℕ). get_or p x 0) n) o

-- the edit run ends in its row
edit_most : {w : ℕ} → Width w → (on : Bool) (at : ℕ) (p : List ℕ) → length p ≡ 24 * w → at < 24 * w
    → (at ≤ edit_end w (guarded_at on p) at) × (edit_end w (guarded_at on p) at ≤ (at / w + 1) * w)
unfolding row_end
edit_most {w} k on at p n h =
    let s = row_span k at h in
    first_range (guarded_at on p) at ((at / w + 1) * w) (omega (arith, s, next_row w at)) (omega (arith, s, next_row w at, length_guards on p))
  where
    next_row : (w at : ℕ) → (at / w + 1) * w ≡ at / w * w + w
    next_row w at = rw add-one (suc-mul (at / w) w)

-- a range of cells, and the rows that it touches
fill_rows : {w : ℕ} → Width w → (a e j : ℕ) → (j < a / w * w) ⊎ ((e + (w - 1)) / w * w ≤ j) → (j < a) ⊎ (e ≤ j)
fill_rows k a e j =
    by_width (λ (w : ℕ). (j < a / w * w) ⊎ ((e + (w - 1)) / w * w ≤ j) → (j < a) ⊎ (e ≤ j))
    (⊎_elim (λ b. inl (omega arith)) (λ b. inr (omega arith))) (⊎_elim (λ b. inl (omega arith)) (λ b. inr (omega arith))) k

edit_rows : {w : ℕ} → Width w → (at j : ℕ) → (j < at / w * w) ⊎ ((at / w + 1) * w ≤ j) → (j < at) ⊎ ((at / w + 1) * w ≤ j)
edit_rows k at j =
    by_width (λ (w : ℕ). (j < at / w * w) ⊎ ((at / w + 1) * w ≤ j) → (j < at) ⊎ ((at / w + 1) * w ≤ j))
    (⊎_elim (λ b. inl (omega arith)) (λ b. inr b)) (⊎_elim (λ b. inl (omega arith)) (λ b. inr b)) k

-- no cell lies outside all rows
no_cell : (w j : ℕ) (p : List ℕ) → length p ≡ 24 * w → j < length p → (j < 0 * w) ⊎ (24 * w ≤ j) → ⊥
no_cell w j p n h (inl b) = omega (arith, zero-mul w)
no_cell w j p n h (inr b) = omega arith

applied_outside : {w : ℕ} → Width w → (on : Bool) (x : Write) (p : List ℕ) → GoodWrite w x → length p ≡ 24 * w → (j : ℕ) → j < length p
    → (j < touched_top w x * w) ⊎ (touched_bottom w x * w ≤ j) → get_or (applied w on x p) j 0 ≡ get_or p j 0
unfolding applied edit_shifted touched_top touched_bottom
applied_outside k on Write.Nothing p g n j h o = refl
applied_outside k on (Write.Fill a e v) p g n j h o =
    outside a e (filled on v) (length_filled on v) p g.0 (omega (arith, g)) j (fill_rows k a e j o)
applied_outside {w} k on (Write.FillAll a e v) p g n j h o = absurd (no_cell w j p n h o)
applied_outside {w} k on (Write.Column top bottom c v) p g n j h o = absurd (no_cell w j p n h o)
applied_outside {w} k on (Write.Edit right at v) p g n j h o =
    let r = edit_most k on at p n g in
    outside at (edit_end w (guarded_at on p) at) (shifted right 1 v) (length_shifted right 1 v) p r.0
    (omega (arith, r, row_span k at g)) j (⊎_elim (λ b. inl b) (λ b. inr (omega (arith, r))) (edit_rows k at j o))
applied_outside {w} k on (Write.Rows down top bottom) p g n j h o = absurd (no_cell w j p n h o)

-- ---- rows

row_kept : (w : ℕ) (on : Bool) (p q : List ℕ) (k : ℕ) → length q ≡ length p → k * w + w ≤ length p
    → ((j : ℕ) → j < length p → k * w ≤ j → j < k * w + w → get_or q j 0 ≡ get_or p j 0) → row_at w (guarded_at on p) k ≡ row_at w (guarded_at on q) k
row_kept w on p q k n fits h =
    let l : length (take w (drop (k * w) p)) ≡ length (take w (drop (k * w) q)) = simp (length-take, length-drop) (rw n) in
    sym (guards_part on (k * w) w p)
    ∙ ap (guarded_at on) (ext_get_or 0 (take w (drop (k * w) p)) (take w (drop (k * w) q)) l
    (λ i b.
    let s : i < w = omega (arith, length-take-le w (drop (k * w) p) (omega (arith, length-drop (k * w) p))) in
    get_or-take w (drop (k * w) p) i 0 s ∙ get_or-drop (k * w) p i 0 ∙ sym (h (k * w + i) (omega arith) (omega arith) (omega arith))
    ∙ sym (get_or-take w (drop (k * w) q) i 0 s ∙ get_or-drop (k * w) q i 0)))
    ∙ guards_part on (k * w) w q

module _ {w : ℕ} (width : Width w) (x : Write) (good : GoodWrite w x) where
  pub touched_range : (touched_top w x ≤ touched_bottom w x) × (touched_bottom w x ≤ 24)
  unfolding touched_top touched_bottom
  touched_range = by x good
    where
      by : (x : Write) → GoodWrite w x → (touched_top w x ≤ touched_bottom w x) × (touched_bottom w x ≤ 24)
      by Write.Nothing g = omega arith
      by (Write.Fill a e v) g =
          by_width (λ (w : ℕ). (a ≤ e) × (e ≤ 24 * w) → (a / w ≤ (e + (w - 1)) / w) × ((e + (w - 1)) / w ≤ 24)) (λ h. omega arith)
          (λ h. omega arith) width g
      by (Write.FillAll a e v) g = omega arith
      by (Write.Column top bottom c v) g = omega arith
      by (Write.Edit right at v) g = by_width (λ (w : ℕ). at < 24 * w → (at / w ≤ at / w + 1) × (at / w + 1 ≤ 24)) (λ h. omega arith)
          (λ h. omega arith) width g
      by (Write.Rows down top bottom) g = omega arith

  -- g are the guarded cells after it
  pub others_kept : (on : Bool) (p : List ℕ) → length p ≡ 24 * w → (g : List Bool) → g ≡ guarded_at on (applied w on x p)
      → {l : List ℕ} → l ≡ row_list w (guarded_at on p) → AllBut w g l (touched_top w x) (touched_bottom w x)
  others_kept on p n g e {l} i k h o =
      let r = numbers_at w 24 (guarded_at on p) k h in
      let fits : k * w + w ≤ length p = omega (arith, suc-mul k w, mul-le-mul_right w h) in
      let s = row_kept w on p (applied w on x p) k (length_applied w on x p) fits (λ j m a b. applied_outside width on x p good n j m
      (⊎_elim
      (λ c. inl (omega (arith, suc-mul k w, mul-le-mul_right w c)))
      (λ c. inr (omega (arith, mul-le-mul_right w c))) o)) in
      rw (i, e) (record { count = r.count ∙ ap open_count s; first = r.first ∙ ap first_column s })
