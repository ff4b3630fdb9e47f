-- A possible screen is what commands need, and stays possible where commands change it.
--     screen_inside, active_most     the active segment has a row, and the cursor is in it; it is segment 0 or 1
--     cursor_kept       the active cursor put into the active segment
--     activated_kept    another segment made active
--     unsplit_screen_lem, split_screen_lem     the screens of ESC x
-- Assumes nothing.
use mathlib.Core.Path.{◌≡◌, refl}
use mathlib.Core.Bool.{Bool, true, false}
use mathlib.Core.Logic.{◌⊎◌, inl, inr}
use Prim.Native.Nat.{ℕ, ◌-◌, ◌*◌, ◌≤◌, ◌<◌}
use native.Mathlib.Omega.{arith}
use lib.Dec.{leb, ltb, eqb}
use borrow.Author.Tests.{ltb-true, leb-true, eqb-true, eq-eqb, ne_eqb}
use Rattle.rules.specs.declared.Screen.{Screen}
use Rattle.rules.specs.Cell.{pick}
use Rattle.rules.specs.Row.{columns, height}
use Rattle.rules.specs.State.{width_of, page_length, segment_top, segment_bottom, segment_start, segment_end, cursor_of, with_cursor, activated, Inside}
use Rattle.rules.specs.Possible.{unsplit_ok, split_ok, screen_ok}
use Rattle.rules.specs.Plan.{unsplit_screen, split_screen}
use Rattle.rules.proofs.Tests.{both_parts, either_way, tests}
use Rattle.rules.proofs.Rows.{columns_width, placed, width_range, cell_inside}

-- the two forms of a possible screen
record Unsplit (x : Screen) : Type 0 where
  none : eqb x.split 0 ≡ true
  first : eqb x.active 0 ≡ true
  zeroth : x.cursor0 < page_length x
  other : x.cursor1 < page_length x

record Split (x : Screen) : Type 0 where
  some : eqb x.split 0 ≡ false
  least : 2 ≤ x.split
  most : x.split ≤ height
  one : x.active ≤ 1
  low : x.cursor0 < (x.split - 1) * width_of x
  top : (x.split - 1) * width_of x ≤ x.cursor1
  high : x.cursor1 < page_length x

unsplit_parts : (x : Screen) → eqb x.split 0 ≡ true → unsplit_ok x ≡ true → Unsplit x
unfolding unsplit_ok
unsplit_parts x z h =
    let r1 = both_parts (eqb x.active 0) _ h in
    let r2 = both_parts (ltb x.cursor0 (page_length x)) _ r1.1 in
    record { none = z; first = r1.0; zeroth = ltb-true _ _ r2.0; other = ltb-true _ _ r2.1 }

split_parts : (x : Screen) → eqb x.split 0 ≡ false → split_ok x ≡ true → Split x
unfolding split_ok
split_parts x z h =
    let r1 = both_parts (leb 2 x.split) _ h in
    let r2 = both_parts (leb x.split height) _ r1.1 in
    let r3 = both_parts (leb x.active 1) _ r2.1 in
    let r4 = both_parts (ltb x.cursor0 ((x.split - 1) * width_of x)) _ r3.1 in
    let r5 = both_parts (leb ((x.split - 1) * width_of x) x.cursor1) _ r4.1 in
    record {
      some = z;
      least = leb-true _ _ r1.0;
      most = leb-true _ _ r2.0;
      one = leb-true _ _ r3.0;
      low = ltb-true _ _ r4.0;
      top = leb-true _ _ r5.0;
      high = ltb-true _ _ r5.1;
    }

screen_parts : (x : Screen) → screen_ok x ≡ true → Unsplit x ⊎ Split x
unfolding screen_ok
screen_parts x h = by (eqb x.split 0) refl h
  where
    by : (t : Bool) → eqb x.split 0 ≡ t → pick t (unsplit_ok x) (split_ok x) ≡ true → Unsplit x ⊎ Split x
    by true z e = inl (unsplit_parts x z e)
    by false z e = inr (split_parts x z e)

unsplit_whole : (x : Screen) → Unsplit x → screen_ok x ≡ true
unfolding screen_ok unsplit_ok
unsplit_whole x u = rw u.none (search (tests, arith))

split_whole : (x : Screen) → Split x → screen_ok x ≡ true
unfolding screen_ok split_ok
split_whole x s = rw s.some (search (tests, arith))

-- where the cursor is in a row of its segment, its row and column follow
inside : (x : Screen) → segment_top x < segment_bottom x → segment_bottom x ≤ height → segment_start x ≤ cursor_of x → cursor_of x < segment_end x → Inside x
inside x r m f b = record { rows = r; most = m; from = f; below = b; placed = placed (columns_width x.wide) r m f b }

pub screen_inside : (x : Screen) → screen_ok x ≡ true → Inside x
unfolding segment_top segment_bottom cursor_of
screen_inside x h = by (screen_parts x h) (either_way (eqb x.active 0))
  where
    by : Unsplit x ⊎ Split x → (eqb x.active 0 ≡ true) ⊎ (eqb x.active 0 ≡ false) → Inside x
    by (inl u) t =
        inside x (rw (u.none, u.first) (omega arith)) (rw u.none (omega arith)) (rw u.first (omega arith))
        (rw (u.none, u.first) (omega arith))
    by (inr s) (inl a) =
        inside x (rw (s.some, a) (omega arith)) (rw (s.some, a) (omega arith)) (rw a (omega arith)) (rw (s.some, a) s.low)
    by (inr s) (inr a) =
        inside x (rw (s.some, a) (omega arith)) (rw (s.some, a) (omega arith)) (rw a s.top) (rw (s.some, a) s.high)

pub active_most : (x : Screen) → screen_ok x ≡ true → x.active ≤ 1
active_most x h = by (screen_parts x h)
  where
    by : Unsplit x ⊎ Split x → x.active ≤ 1
    by (inl u) = omega (arith, eqb-true x.active 0 u.first)
    by (inr s) = s.one

pub cursor_kept : (x : Screen) (n : ℕ) → screen_ok x ≡ true → segment_start x ≤ n → n < segment_end x → screen_ok (with_cursor x n) ≡ true
unfolding segment_top segment_bottom with_cursor
cursor_kept x n h l e = by (screen_parts x h) (either_way (eqb x.active 0))
  where
    by : Unsplit x ⊎ Split x → (eqb x.active 0 ≡ true) ⊎ (eqb x.active 0 ≡ false) → screen_ok (with_cursor x n) ≡ true
    by (inl u) t =
        let k : n < page_length x = (rw u.none at e) in
        unsplit_whole _ record { none = u.none; first = u.first; zeroth = rw u.first k; other = rw u.first u.other }
    by (inr s) (inl a) =
        let k : n < (x.split - 1) * width_of x = (rw (s.some, a) at e) in
        split_whole _ record {
          some = s.some;
          least = s.least;
          most = s.most;
          one = s.one;
          low = rw a k;
          top = rw a s.top;
          high = rw
              a s.high;
        }
    by (inr s) (inr a) =
        let j : (x.split - 1) * width_of x ≤ n = (rw a at l) in
        let k : n < page_length x = (rw (s.some, a) at e) in
        split_whole _ record { some = s.some; least = s.least; most = s.most; one = s.one; low = rw a s.low; top = rw a j; high = rw a k }

-- segment 1 is there where the page is split
pub activated_kept : (x : Screen) (n : ℕ) → screen_ok x ≡ true → n ≤ 1 → n ≤ x.split → screen_ok (activated x n) ≡ true
activated_kept x n h one some = by (screen_parts x h)
  where
    by : Unsplit x ⊎ Split x → screen_ok (activated x n) ≡ true
    by (inl u) = unsplit_whole _ record {
      none = u.none;
      first = eq-eqb n 0 (omega (arith, eqb-true x.split 0 u.none));
      zeroth = u.zeroth;
      other = u.other;
    }
    by (inr s) = split_whole _ record { some = s.some; least = s.least; most = s.most; one = one; low = s.low; top = s.top; high = s.high }

pub unsplit_screen_lem : (wide : Bool) → screen_ok (unsplit_screen wide) ≡ true
unfolding screen_ok unsplit_ok columns
unsplit_screen_lem true = refl
unsplit_screen_lem false = refl

pub split_screen_lem : (wide : Bool) (s : ℕ) → 2 ≤ s → s ≤ height → screen_ok (split_screen wide s) ≡ true
split_screen_lem wide s l h =
    let k = columns_width wide in
    let r = width_range k in
    split_whole (split_screen wide s) record {
      some = ne_eqb s 0 (λ e. omega arith);
      least = l;
      most = h;
      one = omega arith;
      low = omega (arith, cell_inside k {row = 0} {column = 0} {bottom = s - 1} (omega arith) (omega arith));
      top = omega arith;
      high = omega (arith, cell_inside k {row = s - 1} {column = 0} {bottom = 24} (omega arith) (omega arith));
    }
