-- `page::change::shift_left` meets its contract. The loop: below i the cells are shifted, from i on they are as they were.
use mathlib.Core.Path.{refl, ◌∙◌}
use native.Mathlib.Numerals.{add-one}
use native.Mathlib.Omega.{arith}
use Rattle.page.proofs.Loop.{joined_start}
use Rattle.page.proofs.Changes.{length_left, left_turn, left_filled}
use Rattle.page.proofs.change.shift_left.Goals as goal

pub loop-i-init : goal.loop-i-init
loop-i-init c =
    let x = c.args in
    (refl, (omega arith, joined_start (length_left x.count x.value x.part.now)))

pub loop-i-preserved : goal.loop-i-preserved
loop-i-preserved c =
    let x = c.args in
    let l = c.loop-i in
    let more = c.loop-i-test.true in
    (refl, (rw add-one more, left_turn x.count x.value x.part.now more l.invariant.1.1))

pub put_cells-requires : goal.put_cells-requires
put_cells-requires c = let l = c.loop-i in omega (arith, l.invariant.1.1.long, c.requires)

pub returns : goal.returns
returns c =
    let x = c.args in
    let l = c.loop-i in
    c.put_cells.ensures ∙ left_filled x.count x.value x.part.now
    c.requires refl c.loop-i-test.false l.invariant.1.0
    l.invariant.1.1
