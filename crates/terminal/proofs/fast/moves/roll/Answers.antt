-- `terminal::fast::moves::roll` meets its contract.
use mathlib.Core.Path.{◌≡◌, refl}
use mathlib.Core.Logic.{◌⊎◌, inl, inr}
use Prim.Native.Nat.{ℕ, ◌+◌, ◌<◌, ◌≤◌}
use native.Mathlib.Omega.{arith}
use borrow.Author.Tests.{not-false}
use Rattle.std.specs.Prelude.{Option, Some, None, IfSome, true}
use Rattle.rules.specs.Row.{row_start}
use Rattle.terminal.specs.declared.fast.Ground.{Ground}
use Rattle.terminal.specs.FastPath.{ground_width, Rolled}
use Rattle.terminal.proofs.fast.moves.roll.Goals as goal

rolled : (z : Ground) (at b k : ℕ) (o : Option ℕ) → z.rolls ≡ true → k < z.end
    → ((b ≡ 0x0a) × (k ≡ at)) ⊎ ((b ≡ 0x1f) × (k ≡ row_start (ground_width z) at))
    → IfSome o (λ m. (m ≡ k) × (z.end ≤ k + ground_width z)) → IfSome o (λ m. (m < z.end) × Rolled z at b m)
rolled z at b k None r h e x = x
rolled z at b k (Some m) r h e x =
    (omega (arith, x.0), record { from = rw x.0 e; mode = r; last = omega (arith, x.0, x.1) })

pub returns-in-10 : goal.returns-in-10
returns-in-10 c =
    rolled c.args.ground c.args.at c.args.b _ _ (not-false _ c.if-not-ground.false) c.requires.0 (inl (c.in-10.is, refl)) c.in_last_row.ensures

pub returns-in-31 : goal.returns-in-31
returns-in-31 c =
    rolled c.args.ground c.args.at c.args.b _ _ (not-false _ c.if-not-ground.false) (omega (arith, c.requires.0, c.line_start.ensures))
    (inr (c.in-31.is, c.line_start.ensures)) c.in_last_row-in-31.ensures
