-- `page::change::fill_open` meets its contract. The loop: below i the open cells are filled, from i on they are as they were.
use mathlib.Core.Path.{sym, ap, ◌∙◌}
use mathlib.Core.Bool.{true}
use native.Mathlib.Omega.{arith}
use Rattle.rules.specs.Change.{fill_cell}
use Rattle.page.proofs.Loop.{joined_start, step_up, joined_all}
use Rattle.page.proofs.Changes.{length_filled, filled_at}
use Rattle.page.proofs.change.fill_open.Goals as goal

pub loop-i-init : goal.loop-i-init
loop-i-init c = let x = c.args in (omega arith, joined_start (length_filled true x.value x.part.now))

pub loop-i-preserved : goal.loop-i-preserved
loop-i-preserved c =
    let x = c.args in
    let l = c.loop-i in
    let j = l.invariant.1 in (
      omega arith,
      step_up j (omega arith) (c.filled_cell.ensures ∙ ap (fill_cell true x.value) (j.above l.i (omega arith))
          ∙ sym (filled_at true x.value x.part.now l.i (omega arith))),
    )

pub returns : goal.returns
returns c = joined_all c.loop-i.invariant.1 (omega arith)
