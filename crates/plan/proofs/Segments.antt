-- Numbers of segments: subtractions and sums of them stay in range.
--     segment_code    a segment's code is no less than 30h
--     segment_rows    the segment that a code names, made active, has rows of the page
-- Assumes nothing.
use Rattle.std.specs.Prelude.{◌≡◌, ℕ, ◌-◌, ◌≤◌, Bool, true, false, not, eqb}
use mathlib.Core.Path.{refl}
use native.Mathlib.Omega.{arith}
use borrow.Author.Tests.{eqb-true}
use Rattle.rules.specs.declared.Screen.{Screen}
use Rattle.rules.specs.Cell.{both, either}
use Rattle.rules.specs.Possible.{screen_ok}
use Rattle.rules.specs.State.{activated, Inside}
use Rattle.rules.specs.Plan.{is_segment}
use Rattle.rules.proofs.Tests.{both_parts}
use Rattle.rules.proofs.Screens.{screen_inside, activated_kept}
use Rattle.rules.proofs.Places.{segment_there}

pub segment_code : (x : Screen) (n : ℕ) → is_segment x n ≡ true → 0x30 ≤ n
unfolding is_segment
segment_code x n h = by (eqb n 0x30) refl h
  where
    by : (t : Bool) → eqb n 0x30 ≡ t → either t (both (eqb n 0x31) (not (eqb x.split 0))) ≡ true → 0x30 ≤ n
    by true z e = omega (arith, eqb-true n 0x30 z)
    by false z e = omega (arith, eqb-true n 0x31 (both_parts (eqb n 0x31) _ e).0)

pub segment_rows : (x : Screen) (n : ℕ) → screen_ok x ≡ true → is_segment x n ≡ true → Inside (activated x (n - 0x30))
segment_rows x n ok h = let t = segment_there x n h in screen_inside (activated x (n - 0x30)) (activated_kept x (n - 0x30) ok t.0 t.1)
