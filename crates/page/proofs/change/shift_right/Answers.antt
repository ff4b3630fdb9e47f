-- `page::change::shift_right` meets its contract. The loop: from i + count on the cells are shifted, below they are as they were.
use mathlib.Core.Path.{sym, ◌∙◌}
use native.Mathlib.Omega.{arith}
use Rattle.page.proofs.Loop.{joined_end}
use Rattle.page.proofs.Changes.{length_right, right_turn, right_filled}
use Rattle.page.proofs.change.shift_right.Goals as goal

pub loop-i-init : goal.loop-i-init
loop-i-init c =
    let x = c.args in
    (omega arith, joined_end (sym (length_right x.count x.value x.part.now)) (omega arith))

pub loop-i-preserved : goal.loop-i-preserved
loop-i-preserved c =
    let x = c.args in
    let l = c.loop-i in
    let more = c.loop-i-test.true in
    (omega arith, right_turn x.count x.value x.part.now (omega (arith, more)) l.invariant.0 l.invariant.1)

pub put_cells-requires : goal.put_cells-requires
put_cells-requires c =
    let x = c.args in let l = c.loop-i in omega
    (arith, l.invariant.1.long, length_right x.count x.value x.part.now, c.requires)

pub returns : goal.returns
returns c =
    let x = c.args in
    let l = c.loop-i in
    c.put_cells.ensures ∙ right_filled x.count x.value x.part.now
    c.requires c.loop-i-test.false l.invariant.1
