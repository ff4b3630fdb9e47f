-- `page::change::shift_edit_run` meets its contract.
use mathlib.Core.Path.{refl}
use mathlib.Core.Logic.{inl}
use native.Mathlib.Omega.{arith}
use Rattle.rules.specs.Change.{shifted, edit_shifted}
use Rattle.rules.proofs.Rows.{columns_width, page_small}
use Rattle.page.proofs.Changes.{lent, none_or_some, edit_inside}
use Rattle.page.proofs.change.shift_edit_run.Goals as goal

pub offset_bounds-page-at : goal.offset_bounds-page-at
unfolding edit_shifted
offset_bounds-page-at c = let k = c.requires in omega (arith, page_small (columns_width c.args.wide))

pub slice_bounds-shift-count : goal.slice_bounds-shift-count
unfolding edit_shifted
slice_bounds-shift-count c =
    let x = c.args in
    let k = c.requires in
    (edit_inside x.protect x.page.now (columns_width c.args.wide) k.0 k.1 c.edit_end-end.ensures).0

pub slice_bounds-shift-start : goal.slice_bounds-shift-start
unfolding edit_shifted
slice_bounds-shift-start c =
    let x = c.args in
    let k = c.requires in
    (edit_inside x.protect x.page.now (columns_width c.args.wide) k.0 k.1 c.edit_end-end.ensures).0

pub slice_bounds-shift-end : goal.slice_bounds-shift-end
unfolding edit_shifted
slice_bounds-shift-end c =
    let x = c.args in
    let k = c.requires in
    (edit_inside x.protect x.page.now (columns_width c.args.wide) k.0 k.1 c.edit_end-end.ensures).1

pub shift-requires : goal.shift-requires
unfolding edit_shifted
shift-requires c = (inl refl, none_or_some _)

pub returns : goal.returns
unfolding edit_shifted
returns c =
    let x = c.args in
    rw (← c.edit_end-end.ensures)
    (lent _ _ (shifted x.right 1 x.value) x.page.now c.shift.ensures)
