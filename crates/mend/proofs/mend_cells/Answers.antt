-- `mend::mend_cells` meets its contract. The loop: the cells up to the next one are mended and listed.
use native.Mathlib.Omega.{arith}
use Prim.Native.Nat.{◌<◌}
use lib.ListN.{length}
use Rattle.rules.specs.Row.{columns}
use Rattle.mend.proofs.Mending.{going_begins, going_page, going_list, going_count, going_fits, going_next, going_done}
use Rattle.mend.proofs.mend_cells.Goals as goal

pub loop-at-init : goal.loop-at-init
loop-at-init c = let x = c.args in going_begins x.personality (columns x.wide) x.page.now x.list.now c.requires.1

pub mend_cell-n-requires : goal.mend_cell-n-requires
mend_cell-n-requires c =
    let g = c.loop-at.invariant in
    let t : c.loop-at.at < length c.loop-at.page = omega (arith, going_page g) in
    (t, (omega (arith, c.requires.0, going_page g), (omega (arith, t, c.requires.0, going_page g, going_count g), going_fits g t)))

pub loop-at-preserved : goal.loop-at-preserved
loop-at-preserved c = going_next c.loop-at.invariant (omega (arith, going_page c.loop-at.invariant)) c.mend_cell-n.ensures

pub shape_of-page : goal.shape_of-page
shape_of-page c = going_page c.loop-at.invariant

pub shape_of-list : goal.shape_of-list
shape_of-list c = going_list c.loop-at.invariant

pub returns : goal.returns
returns c =
    let done = going_done c.loop-at.invariant (omega (arith, going_page c.loop-at.invariant)) in
    record { cells = done.0; listed = done.1 }
