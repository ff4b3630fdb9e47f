-- The cursor settles from a place of the active segment.
--     settle_asked, rows_asked     what the searches ask
--     settle_range     where it ends: in the page
-- Assumes nothing.
use Rattle.std.specs.Prelude.{◌≡◌, ℕ, ◌*◌, ◌/◌, ◌<◌, ◌≤◌, Bool, true, List, length}
use mathlib.Core.Path.{subst, ◌∙◌}
use native.Mathlib.Omega.{arith}
use Rattle.rules.specs.declared.Screen.{Screen}
use Rattle.rules.specs.declared.Land.{Land}
use Rattle.rules.specs.Row.{Width}
use Rattle.rules.specs.RowList.{row_list}
use Rattle.rules.specs.Search.{guarded_at, settled}
use Rattle.rules.specs.State.{width_of, page_length, segment_bottom, segment_start, segment_end}
use Rattle.rules.specs.Possible.{screen_ok}
use Rattle.rules.specs.Theorems.Good.{GoodLand}
use Rattle.rules.proofs.Rows.{by_width, columns_width}
use Rattle.rules.proofs.Searching.{length_guards}
use Rattle.rules.proofs.Screens.{screen_inside}
use Rattle.rules.proofs.Places.{in_settled}

-- so many rows
rows_whole : {w : ℕ} → Width w → (n : ℕ) → n * w / w * w ≡ n * w
rows_whole k n = by_width (λ (w : ℕ). n * w / w * w ≡ n * w) (omega arith) (omega arith) k

-- a settling, as a match tells it
pub told_good : (x : Screen) {l : Land} {i : ℕ} → l ≡ Land.Settle i → GoodLand x l → GoodLand x (Land.Settle i)
told_good x told good = subst (GoodLand x) told good

-- from a place of the segment
module _ (x : Screen) (ok : screen_ok x ≡ true) {i : ℕ} (good : GoodLand x (Land.Settle i)) (p : List ℕ) (long : length p ≡ page_length x) where
  module _ {a e : ℕ} (first : a ≡ segment_start x) (last : e ≡ segment_end x) where
    pub settle_asked : (a ≤ e) × ((i ≤ e) × (e ≤ length p))
    settle_asked =
        let inside = screen_inside x ok in
        omega (arith, good)

    -- by the row list
    pub rows_asked : (on : Bool) {rows : List ℕ} → rows ≡ row_list (width_of x) (guarded_at on p)
        → let w = width_of x in
        (length p ≡ 24 * w) × ((rows ≡ row_list w (guarded_at on p)) × ((a < e) × ((i < e) × ((e ≤ 24 * w) × (e / w * w ≡ e)))))
    rows_asked on list =
        let inside = screen_inside x ok in
        let whole = rows_whole (columns_width x.wide) (segment_bottom x) in
        rw last (long, (list, (omega (arith, inside), (omega (arith, good), (omega (arith, inside), whole)))))

  pub settle_range : (on : Bool) {n : ℕ} → n ≡ settled (guarded_at on p) (segment_start x) (segment_end x) i → n < 3168
  settle_range on h =
      let inside = screen_inside x ok in
      let place = in_settled x inside (guarded_at on p) (length_guards on p ∙ long) i good in
      rw h (omega (arith, place))
