-- The shift, cell by cell: `shift_moves` for any cells, `rows_move` for the rows that `page::change::shift_rows` moves.
-- Assumes nothing.
use mathlib.Core.Path.{◌≡◌, ap, ◌∙◌}
use mathlib.Core.Bool.{Bool, true, false}
use mathlib.Core.List.{List}
use Prim.Native.Nat.{ℕ, ◌+◌, ◌-◌, ◌*◌, ◌≤◌, ◌<◌}
use native.Mathlib.Omega.{arith}
use lib.ListN.{length, get_or, take, drop}
use lib.Seq.{get_or-drop, get_or-take}
use borrow.Rule.Slice.PartMut.{mid_len}
use Rattle.rules.specs.Row.{Width}
use Rattle.rules.specs.Cell.{space}
use Rattle.rules.specs.Change.{within, shift_left, shift_right, shifted, rows_shifted}
use Rattle.rules.proofs.Rows.{rows_le}
use Rattle.page.specs.Moved.{Moved}
use Rattle.page.proofs.Changes.{
  at_front,
  at_part,
  at_back,
  length_within,
  length_left,
  left_kept,
  left_new,
  length_right,
  right_kept,
  right_new,
}

module _ (k v a e : ℕ) (p : List ℕ) (h : a ≤ e) (n : e ≤ length p) where
  -- a cell of the part
  part_at : (i : ℕ) → i < e - a → get_or (take (e - a) (drop a p)) i 0 ≡ get_or p (a + i) 0
  part_at i b = get_or-take (e - a) (drop a p) i 0 b ∙ get_or-drop a p i 0

  left_moves : Moved false k v a e p (within a e (shift_left k v) p)
  left_moves =
      let q = take (e - a) (drop a p) in
      let m = mid_len a e p n in
      let s = length_left k v q in
      record {
        size = length_within a e (shift_left k v) p h n s;
        before = at_front a e (shift_left k v) p h n s;
        after = at_back a e (shift_left k v) p h n s;
        kept = λ i b c.
            let x : a + (i - a) ≡ i = omega arith in
            let y : a + (i - a + k) ≡ i + k = omega arith in
            rw x at (at_part a e (shift_left k v) p h n s (i - a) (omega arith))
            ∙ left_kept k v q (i - a) (omega (arith, m))
            ∙ part_at (i - a + k) (omega arith)
            ∙ ap (λ (j : ℕ). get_or p j 0) y;
        new = λ i b c.
            let x : a + (e - k + i - a) ≡ e - k + i = omega arith in
            rw x at (at_part a e (shift_left k v) p h n s (e - k + i - a) (omega arith))
            ∙ left_new k v q (e - k + i - a) (omega (arith, m)) (omega (arith, m));
      }

  right_moves : Moved true k v a e p (within a e (shift_right k v) p)
  right_moves =
      let q = take (e - a) (drop a p) in
      let m = mid_len a e p n in
      let s = length_right k v q in
      record {
        size = length_within a e (shift_right k v) p h n s;
        before = at_front a e (shift_right k v) p h n s;
        after = at_back a e (shift_right k v) p h n s;
        kept = λ i b c.
            let x : a + (i - a + k) ≡ i + k = omega arith in
            let y : a + (i - a) ≡ i = omega arith in
            rw x at (at_part a e (shift_right k v) p h n s (i - a + k) (omega arith))
            ∙ right_kept k v q (i - a) (omega (arith, m))
            ∙ part_at (i - a) (omega arith)
            ∙ ap (λ (j : ℕ). get_or p j 0) y;
        new = λ i b c. at_part a e (shift_right k v) p h n s i (omega arith) ∙ right_new k v q i (omega (arith, m)) b;
      }

  pub shift_moves : (right : Bool) → Moved right k v a e p (within a e (shifted right k v) p)
  shift_moves true = right_moves
  shift_moves false = left_moves

-- every cell of the page after its rows `top` up to `bottom` moved by one row
pub rows_move : {w : ℕ} → Width w → (down : Bool) (top bottom : ℕ) (p : List ℕ) → top ≤ bottom → bottom ≤ 24 → length p ≡ 24 * w
    → Moved down w space (top * w) (bottom * w) p (rows_shifted w down top bottom p)
unfolding rows_shifted
rows_move {w} k down top bottom p h n e =
    shift_moves w space (top * w) (bottom * w) p (rows_le k h) (omega (arith, rows_le k n, e)) down
