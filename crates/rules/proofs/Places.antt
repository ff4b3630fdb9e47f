-- Where moves end: in the active segment.
--     in_next, in_up, in_back                   0Ch, 0Bh, 08h
--     in_next_tab, in_previous_tab              09h and ESC I with protect off, whatever the number of tab stops
--     in_next_field, in_previous_field          09h and ESC I with protect on
--     in_settled                                a settle from a place of the segment
-- Assumes nothing.
use mathlib.Core.Path.{◌≡◌, refl}
use mathlib.Core.Bool.{Bool, true, false, not}
use mathlib.Core.List.{List, [], ◌∷◌}
use Prim.Native.Nat.{ℕ, suc, ◌+◌, ◌-◌, ◌≤◌, ◌<◌}
use native.Mathlib.Omega.{arith}
use lib.Dec.{ltb, eqb}
use lib.ListN.{length, length-take}
use lib.Seq.{slice}
use borrow.Author.Tests.{ltb-true, ltb-false, eqb-true, eqb-false, not-true}
use Rattle.rules.specs.declared.Screen.{Screen}
use Rattle.rules.specs.declared.Land.{Land}
use Rattle.rules.specs.declared.Land.TheVariants as Land
use Rattle.rules.specs.Cell.{both, either}
use Rattle.rules.specs.Row.{column_of, row_start}
use Rattle.rules.specs.Search.{others, sought_at, first_in, last_in, last_true, previous_open, next_field, previous_field, next_tab, previous_tab}
use Rattle.rules.specs.Search.{settled}
use Rattle.rules.specs.declared.Sought.TheVariants as Sought
use Rattle.rules.specs.State.{width_of, page_length, segment_start, segment_end, cursor_of, Inside}
use Rattle.rules.specs.Plan.{next_cell, at_top, up_cell, is_segment}
use Rattle.rules.specs.Theorems.Good.{GoodLand}
use Rattle.rules.proofs.Tests.{pick_if, both_parts}
use Rattle.rules.proofs.Searching.{length_sought, last_range, around_range, back_range}

-- ---- tab stops, whatever their number

pub next_tab_below : (w : ℕ) (tabs : List Bool) (column : ℕ) → column < w → next_tab w tabs column < w
next_tab_below w tabs column h =
    pick_if (λ (n : ℕ). n < w) (ltb (first_in tabs (column + 1) w) w) (ltb-true (first_in tabs (column + 1) w) w) (λ e. h)

last_at_most : (none at most : ℕ) (m : List Bool) → none ≤ most → at + length m ≤ most + 1 → last_true none at m ≤ most
last_at_most none at most [] a b = a
last_at_most none at most (true ∷ m) a b = last_at_most at (suc at) most m (omega arith) (omega arith)
last_at_most none at most (false ∷ m) a b = last_at_most none (suc at) most m a (omega arith)

pub previous_tab_below : (tabs : List Bool) (column : ℕ) → previous_tab tabs column ≤ column
unfolding last_in
previous_tab_below tabs column = last_at_most 0 0 column (slice 0 column tabs) (omega arith) (omega (arith, length-take column tabs))

-- ---- places of the active segment

abbrev pub In : Screen → ℕ → Type 0
In x n = GoodLand x (Land.Settle n)

-- a segment named by its code is there
pub segment_there : (x : Screen) (n : ℕ) → is_segment x n ≡ true → (n - 0x30 ≤ 1) × (n - 0x30 ≤ x.split)
unfolding is_segment
segment_there x n h = by (eqb n 0x30) refl h
  where
    by : (s : Bool) → eqb n 0x30 ≡ s → either s (both (eqb n 0x31) (not (eqb x.split 0))) ≡ true → (n - 0x30 ≤ 1) × (n - 0x30 ≤ x.split)
    by true z e = omega (arith, eqb-true n 0x30 z)
    by false z e =
        let r = both_parts (eqb n 0x31) (not (eqb x.split 0)) e in
        omega (arith, eqb-true n 0x31 r.0, eqb-false x.split 0 (not-true (eqb x.split 0) r.1))

module _ (x : Screen) (i : Inside x) where
  pub in_next : In x (next_cell x)
  unfolding next_cell
  in_next = pick_if (In x) (ltb (cursor_of x + 1) (segment_end x)) (λ e. omega (arith, ltb-true (cursor_of x + 1) (segment_end x) e)) (λ e. omega arith)

  pub in_up : In x (up_cell x)
  unfolding up_cell at_top
  in_up = pick_if (In x) (ltb (cursor_of x) (segment_start x + width_of x)) (λ e. omega arith)
      (λ e. omega (arith, ltb-false (cursor_of x) (segment_start x + width_of x) e))

  pub in_next_tab : (tabs : List Bool) → In x (row_start (width_of x) (cursor_of x) + next_tab (width_of x) tabs (column_of (width_of x) (cursor_of x)))
  in_next_tab tabs = omega (arith, next_tab_below (width_of x) tabs (column_of (width_of x) (cursor_of x)) (omega arith))

  pub in_previous_tab : (tabs : List Bool) → In x (row_start (width_of x) (cursor_of x) + previous_tab tabs (column_of (width_of x) (cursor_of x)))
  in_previous_tab tabs = omega (arith, previous_tab_below tabs (column_of (width_of x) (cursor_of x)))

  module _ (g : List Bool) (n : length g ≡ page_length x) where
    pub in_back : In x (previous_open g (segment_start x) (cursor_of x))
    in_back =
        let k = length_sought Sought.Open g in
        let r = last_range (others g) (cursor_of x) (segment_start x) (cursor_of x) (cursor_of x) i.from (omega arith) i.from
        (omega arith) (omega arith) in
        omega arith

    pub in_next_field : In x (next_field g (segment_start x) (segment_end x) (cursor_of x))
    in_next_field =
        let k = length_sought (Sought.FieldStart (segment_start x)) g in
        around_range (sought_at (Sought.FieldStart (segment_start x)) g) (segment_start x) (segment_end x) (cursor_of x + 1) (omega arith)
        (omega arith) (omega arith) (omega arith)

    pub in_previous_field : In x (previous_field g (segment_start x) (segment_end x) (cursor_of x))
    in_previous_field =
        let k = length_sought (Sought.FieldStart (segment_start x)) g in
        back_range (sought_at (Sought.FieldStart (segment_start x)) g) (segment_start x) (segment_end x) (cursor_of x) (omega arith) i.from
        (omega arith) (omega arith)

    pub in_settled : (at : ℕ) → In x at → In x (settled g (segment_start x) (segment_end x) at)
    in_settled at h =
        let k = length_sought Sought.Open g in
        around_range (others g) (segment_start x) (segment_end x) at (omega arith) h.0 (omega arith) (omega arith)
