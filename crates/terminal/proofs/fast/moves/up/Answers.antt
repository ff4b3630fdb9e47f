-- `terminal::fast::moves::up` meets its contract.
use Rattle.std.specs.Prelude.{ℕ, ◌+◌, ◌-◌}
use mathlib.Core.Path.{refl, ap₂}
use native.Mathlib.Omega.{arith}
use Rattle.rules.proofs.Rows.{columns_width, width_range, column_below}
use Rattle.terminal.specs.FastPath.{goes_up, goes_bottom}
use Rattle.terminal.proofs.fast.moves.up.Goals as goal

pub overflow_add-ground : goal.overflow_add-ground
overflow_add-ground c = omega (arith, c.columns-width.ensures, width_range (columns_width c.args.ground.wide), c.requires.0)

pub overflow_sub-result : goal.overflow_sub-result
overflow_sub-result c = omega (arith, c.if-ground-width.true)

pub returns-then-ground-width : goal.returns-then-ground-width
returns-then-ground-width c p = let w = c.columns-width.ensures in goes_up refl (omega (arith, c.if-ground-width.true, w)) (omega (arith, w))

pub overflow_sub-result-2 : goal.overflow_sub-result-2
overflow_sub-result-2 c = omega (arith, c.columns-width.ensures, c.requires.1.1)

pub overflow_add-result : goal.overflow_add-result
overflow_add-result c =
    omega (
      arith,
      c.column_of.ensures,
      column_below (columns_width c.args.ground.wide) c.args.at,
      width_range
          (columns_width c.args.ground.wide),
      c.well_formed,
    )

pub returns : goal.returns
returns c p =
    let w = c.columns-width.ensures in goes_bottom refl (omega (arith, c.if-ground-width.false, w))
    (ap₂ (λ (m n : ℕ). c.args.ground.end - m + n) w c.column_of.ensures)
