-- Where the cursor and the searches from it may be: in the page.
--     cursor_below                              the cursor of a possible screen
--     below_top                                 a cursor that is not in the segment's top row
--     open_range                                08h: where the search back ends
--     next_field_range, previous_field_range    09h and ESC I with protect on
-- Assumes nothing.
use Rattle.std.specs.Prelude.{◌≡◌, ℕ, ◌+◌, ◌<◌, ◌≤◌, Bool, true, false, List, length}
use mathlib.Core.Path.{sym, ◌∙◌}
use native.Mathlib.Omega.{arith}
use borrow.Author.Tests.{ltb-false}
use Rattle.rules.specs.declared.Screen.{Screen}
use Rattle.rules.specs.Search.{guarded_at, previous_open, next_field, previous_field}
use Rattle.rules.specs.State.{width_of, page_length, segment_start, segment_end, cursor_of, Inside}
use Rattle.rules.specs.Possible.{screen_ok}
use Rattle.rules.specs.Plan.{at_top}
use Rattle.rules.proofs.Searching.{length_guards}
use Rattle.rules.proofs.Screens.{screen_inside}
use Rattle.rules.proofs.Places.{in_back, in_next_field, in_previous_field}

pub cursor_below : (x : Screen) → screen_ok x ≡ true → {n : ℕ} → n ≡ cursor_of x → (n < page_length x) × (n < 3168)
cursor_below x ok h = omega (arith, screen_inside x ok)

pub below_top : (x : Screen) {t : Bool} → t ≡ at_top x → t ≡ false → segment_start x + width_of x ≤ cursor_of x
unfolding at_top
below_top x h k = ltb-false (cursor_of x) (segment_start x + width_of x) (sym h ∙ k)

module _ (x : Screen) (i : Inside x) (on : Bool) (p : List ℕ) (long : length p ≡ page_length x) {a at n : ℕ}
    (start : a ≡ segment_start x) (cursor : at ≡ cursor_of x) where
  pub open_range : n ≡ previous_open (guarded_at on p) a at → n < 3168
  open_range h = rw (h, start, cursor) (omega (arith, in_back x i (guarded_at on p) (length_guards on p ∙ long)))

  module _ {e : ℕ} (end : e ≡ segment_end x) where
    pub next_field_range : n ≡ next_field (guarded_at on p) a e at → n < 3168
    next_field_range h = rw (h, start, cursor, end) (omega (arith, in_next_field x i (guarded_at on p) (length_guards on p ∙ long)))

    pub previous_field_range : n ≡ previous_field (guarded_at on p) a e at → n < 3168
    previous_field_range h = rw (h, start, cursor, end) (omega (arith, in_previous_field x i (guarded_at on p) (length_guards on p ∙ long)))
