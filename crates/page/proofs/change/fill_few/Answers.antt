-- `page::change::fill_few` meets its contract.
use mathlib.Core.Path.{◌∙◌}
use mathlib.Core.Bool.{false}
use native.Mathlib.Omega.{arith}
use Rattle.page.proofs.Loop.{joined_start}
use Rattle.page.proofs.Changes.{length_filled, block_filled, last_filled}
use Rattle.page.proofs.change.fill_few.Goals as goal

pub put_cells-requires : goal.put_cells-requires
put_cells-requires c = omega arith

pub returns-then-size-lt16 : goal.returns-then-size-lt16
returns-then-size-lt16 c =
    let x = c.args in
    let start = joined_start (length_filled false x.value x.part.now) in
    c.put_cells.ensures ∙ last_filled x.value x.part.now start 0 _ (omega arith) (omega arith)

pub put_cells-requires-2 : goal.put_cells-requires-2
put_cells-requires-2 c = omega (arith, c.if-size-lt16.false)

pub returns : goal.returns
returns c =
    let x = c.args in
    let few = c.requires in
    let more = c.if-size-lt16.false in
    let start = joined_start (length_filled false x.value x.part.now) in
    let first = block_filled x.value x.part.now start 16 (omega (arith, more)) in
    let second = last_filled x.value x.part.now first _ 16 (omega (arith, few, more)) (omega (arith, more)) in
    c.put_cells-3.ensures ∙ rw c.put_cells-2.ensures second
