-- `terminal::fast::go` meets its contract.
use Rattle.std.specs.Prelude.{false}
use mathlib.Core.Path.{refl}
use native.Mathlib.Omega.{arith}
use Rattle.terminal.specs.FastPath.{none, acted, goes, rolls}
use Rattle.terminal.proofs.FastPaths.{nothing_written, rolled_page}
use Rattle.terminal.proofs.fast.go.Goals as goal

pub bounds-input-i : goal.bounds-input-i
bounds-input-i c = c.requires.1.1

pub open_goal-requires : goal.open_goal-requires
open_goal-requires c = let p = c.requires in (p.0, p.1.0)

pub overflow_add-result : goal.overflow_add-result
overflow_add-result c = omega (arith, c.requires.1.1, c.well_formed)

pub shape_of-page-in-Some : goal.shape_of-page-in-Some
shape_of-page-in-Some c = refl

pub returns-in-Some : goal.returns-in-Some
returns-in-Some c =
    let k = c.in-Some.ensures in
    acted none (goes k.1.0 k.1.1) (omega (arith, c.requires.1.1)) k.0 (nothing_written c.args.ground _)

pub roll-requires : goal.roll-requires
roll-requires c = let p = c.requires in (p.1.0, omega (arith, p.1.0, p.0.inside, p.0.size))

pub shape_of-page-in_default-roll : goal.shape_of-page-in_default-roll
shape_of-page-in_default-roll c = refl

pub returns-in_default-roll : goal.returns-in_default-roll
returns-in_default-roll c = none

pub shift_rows-requires : goal.shift_rows-requires
shift_rows-requires c =
    let f = c.requires.0 in
    (omega (arith, f.rows), (f.most, f.whole))

pub overflow_add-result-2 : goal.overflow_add-result-2
overflow_add-result-2 c = omega (arith, c.requires.1.1, c.well_formed)

pub shape_of-page : goal.shape_of-page
shape_of-page c =
    let a = c.args in
    (rolled_page a.ground a.page.now false a.ground.top a.ground.bottom c.shift_rows.ensures refl).1

pub returns : goal.returns
returns c =
    let a = c.args in
    acted none (rolls c.in-Some-roll.ensures.1) (omega (arith, c.requires.1.1)) c.in-Some-roll.ensures.0
    (rolled_page a.ground a.page.now false a.ground.top a.ground.bottom c.shift_rows.ensures refl).0
