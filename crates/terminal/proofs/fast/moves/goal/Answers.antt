-- `terminal::fast::moves::goal` meets its contract.
use Rattle.std.specs.Prelude.{ℕ, ◌+◌}
use mathlib.Core.Path.{refl, ap, ap₂}
use native.Mathlib.Omega.{arith}
use Rattle.rules.proofs.Rows.{columns_width, width_range}
use Rattle.terminal.specs.FastPath.{goes_down, goes_return, goes_home, goes_line}
use Rattle.terminal.proofs.fast.moves.goal.Goals as goal

pub up-requires : goal.up-requires
up-requires c = let p = c.requires in (p.1.1.0, (omega (arith, p.0, p.1.0), p.1.1.1))

pub right-requires : goal.right-requires
right-requires c = let p = c.requires in (p.0, omega (arith, p.0, p.1.0))

pub overflow_add-result-in-31 : goal.overflow_add-result-in-31
overflow_add-result-in-31 c =
    omega (
      arith,
      c.columns-width.ensures,
      width_range (columns_width c.args.ground.wide),
      c.line_start-in-31.ensures,
      c.requires,
    )

pub returns-in-8 : goal.returns-in-8
returns-in-8 c p = rw c.in-8.is (c.back.ensures p)

pub returns-in-10 : goal.returns-in-10
returns-in-10 c p = goes_down c.in-10.is (ap (λ (n : ℕ). c.args.at + n) c.columns-width.ensures)

pub returns-in-11 : goal.returns-in-11
returns-in-11 c p = rw c.in-11.is (c.up.ensures p)

pub returns-in-12 : goal.returns-in-12
returns-in-12 c p = rw c.in-12.is (c.right.ensures p)

pub returns-in-13 : goal.returns-in-13
returns-in-13 c p = goes_return c.in-13.is c.line_start.ensures

pub returns-in-30 : goal.returns-in-30
returns-in-30 c p = goes_home c.in-30.is refl

pub returns-in-31 : goal.returns-in-31
returns-in-31 c p = goes_line c.in-31.is (ap₂ (λ (m n : ℕ). m + n) c.line_start-in-31.ensures c.columns-width.ensures)
