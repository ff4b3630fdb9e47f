-- `repaint::turn` meets its contract. `lies` says where a span lies that fits. Assumes nothing.
use mathlib.Core.Path.{refl, sym, ◌∙◌}
use native.Mathlib.Omega.{arith}
use Rattle.repaint.proofs.Passing.{width_small, lies, turn_misfit, turn_stops, turn_goes}
use Rattle.repaint.proofs.turn.Goals as goal

pub fits_row-requires : goal.fits_row-requires
fits_row-requires c = omega (arith, width_small c.args.before.now c.args.after.now)

pub returns-then-not-fits_row : goal.returns-then-not-fits_row
returns-then-not-fits_row c = turn_misfit _ _ _ _ (rw (← c.requires, ← c.fits_row.ensures) (c.if-not-fits_row.true))

pub overflow_sub-start : goal.overflow_sub-start
overflow_sub-start c = (lies _ _ c.args.s _ _ _ c.requires c.from.ensures refl (sym c.fits_row.ensures ∙ c.if-not-fits_row.false)).top

pub overflow_mul-start : goal.overflow_mul-start
overflow_mul-start c =
    let f = lies _ _ c.args.s _ _ _ c.requires c.from.ensures refl (sym c.fits_row.ensures ∙ c.if-not-fits_row.false) in record { fits = omega arith }

pub overflow_sub-start-2 : goal.overflow_sub-start-2
overflow_sub-start-2 c = (lies _ _ c.args.s _ _ _ c.requires c.from.ensures c.from-2.ensures (sym c.fits_row.ensures ∙ c.if-not-fits_row.false)).left

pub overflow_add-start : goal.overflow_add-start
overflow_add-start c =
    let f = lies _ _ c.args.s _ _ _ c.requires c.from.ensures c.from-2.ensures (sym c.fits_row.ensures ∙ c.if-not-fits_row.false) in record { fits = omega arith }

pub same_cells-requires : goal.same_cells-requires
same_cells-requires c =
    let f = lies _ _ c.args.s _ _ _ c.requires c.from.ensures c.from-2.ensures (sym c.fits_row.ensures ∙ c.if-not-fits_row.false) in (omega arith, f.alike)

pub returns-then-not-same_cells : goal.returns-then-not-same_cells
returns-then-not-same_cells c =
    turn_stops _ _ _ c.args.s _ _ _ _ _ c.requires c.from.ensures c.from-2.ensures c.fits_row.ensures
    (c.if-not-fits_row.false) c.same_cells.ensures (c.if-not-same_cells.true)

pub overflow_add-result : goal.overflow_add-result
overflow_add-result c =
    let f = lies _ _ c.args.s _ _ _ c.requires c.from.ensures c.from-2.ensures (sym c.fits_row.ensures ∙ c.if-not-fits_row.false) in record { fits = omega arith }

pub returns : goal.returns
returns c =
    turn_goes _ _ _ c.args.s _ _ _ _ _ c.requires c.from.ensures c.from-2.ensures c.fits_row.ensures
    (c.if-not-fits_row.false) c.same_cells.ensures _ c.from-3.ensures (c.if-not-same_cells.false)
