-- `page::change::fill_all` meets its contract. The loop: below i the cells are filled, from i on they are as they were.
use mathlib.Core.Path.{◌∙◌}
use mathlib.Core.Bool.{false}
use native.Mathlib.Omega.{arith}
use Rattle.page.proofs.Loop.{joined_start}
use Rattle.page.proofs.Changes.{length_filled, block_filled, last_filled}
use Rattle.page.proofs.change.fill_all.Goals as goal

pub fill_few-requires : goal.fill_few-requires
fill_few-requires c = omega (arith, c.if-size-lt32.true)

pub returns-then-size-lt32 : goal.returns-then-size-lt32
returns-then-size-lt32 c = c.fill_few.ensures

pub loop-i-init : goal.loop-i-init
loop-i-init c =
    let x = c.args in
    (omega (arith, c.if-size-lt32.false), joined_start (length_filled false x.value x.part.now))

pub put_cells-requires : goal.put_cells-requires
put_cells-requires c = let l = c.loop-i in omega (arith, l.invariant.0, l.invariant.1.long, c.loop-i-test.true)

pub loop-i-preserved : goal.loop-i-preserved
loop-i-preserved c =
    let x = c.args in
    let l = c.loop-i in
    let more = c.loop-i-test.true in (
      l.invariant.0,
      rw c.put_cells.ensures
          (block_filled x.value x.part.now l.invariant.1 32 (omega (arith, l.invariant.0, more))),
    )

pub put_cells-requires-2 : goal.put_cells-requires-2
put_cells-requires-2 c = let l = c.loop-i in omega (arith, l.invariant.0, l.invariant.1.long)

pub returns : goal.returns
returns c =
    let x = c.args in
    let l = c.loop-i in
    let done = c.loop-i-test.false in
    c.put_cells-2.ensures ∙ last_filled x.value x.part.now l.invariant.1 _ 32 done l.invariant.0
