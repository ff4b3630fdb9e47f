-- `page::change::put_cells` meets its contract. The loop: below from + i the cells are as asked, from there on they are as they were.
use native.Mathlib.Nat.{add-zero}
use native.Mathlib.Omega.{arith}
use Rattle.page.proofs.Changes.{put_start, put_turn, put_done}
use Rattle.page.proofs.change.put_cells.Goals as goal

pub loop-i-init : goal.loop-i-init
loop-i-init c = let x = c.args in (omega arith, rw add-zero (put_start x.from x.count x.value x.part.now c.requires))

pub overflow_add-part : goal.overflow_add-part
overflow_add-part c = let j = c.loop-i.invariant.1 in omega (arith, j.long)

pub offset_bounds-part-from : goal.offset_bounds-part-from
offset_bounds-part-from c = let j = c.loop-i.invariant.1 in omega (arith, j.long)

pub bounds-part-from : goal.bounds-part-from
bounds-part-from c = let j = c.loop-i.invariant.1 in omega (arith, j.long)

pub loop-i-preserved : goal.loop-i-preserved
loop-i-preserved c =
    let x = c.args in
    (omega arith, put_turn x.from x.count x.value x.part.now c.requires c.loop-i.invariant.1 c.loop-i-test.true)

pub returns : goal.returns
returns c =
    let x = c.args in
    let l = c.loop-i in
    put_done x.from x.count x.value x.part.now c.requires l.invariant.1 c.loop-i-test.false l.invariant.0
