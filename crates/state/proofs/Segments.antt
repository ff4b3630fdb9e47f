-- The rows of a segment, whatever the split row: no product of them with the width overflows.
-- Assumes nothing.
use Rattle.std.specs.Prelude.{ℕ, ◌+◌, ◌≤◌, Bool, true, false, eqb}
use native.Mathlib.Omega.{arith}
use Rattle.rules.specs.Cell.{pick}
use Rattle.rules.specs.State.{segment_top, segment_bottom}
use Rattle.rules.specs.declared.Screen.{Screen}

pick_most : {m : ℕ} (t : Bool) {a b : ℕ} → a ≤ m → b ≤ m → pick t a b ≤ m
pick_most true h k = h
pick_most false h k = k

pub top_most : (x : Screen) → segment_top x ≤ x.split
unfolding segment_top
top_most x = pick_most (eqb x.active 0) (omega arith) (omega arith)

pub bottom_most : (x : Screen) → segment_bottom x ≤ x.split + 24
unfolding segment_bottom
bottom_most x = pick_most (eqb x.split 0) (omega arith) (pick_most (eqb x.active 0) (omega arith) (omega arith))
