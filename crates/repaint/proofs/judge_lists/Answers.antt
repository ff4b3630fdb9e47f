-- `repaint::judge_lists` meets its contract: what is left of the list, from the cell reached, ends as the whole does. Assumes nothing.
use mathlib.Core.Logic.{inl, inr}
use mathlib.Core.Path.{ap, ◌∙◌}
use Rattle.std.specs.Iterator.Adapters.{zip_first, zip_second}
use Rattle.std.specs.Slice.Iter.{iter_rest}
use native.Mathlib.Omega.{arith}
use Rattle.repaint.specs.Spans.{ListsVerdict}
use Rattle.repaint.proofs.Verdicts.{spans_wrong, lists_whole, lists_step, lists_lost, lists_verdict}
use Rattle.repaint.proofs.judge_lists.Goals as goal
use Rattle.repaint.proofs.judge_lists.Goals.{then-rows-columns-via-then-rows-columns, then-rows-columns-via-else-rows-columns+then-rows-lengths}

pub returns-then-rows-columns : goal.returns-then-rows-columns
returns-then-rows-columns c = ListsVerdict.unlike (λ e f. elim c.then-rows-columns.branch [ then-rows-columns-via-then-rows-columns w ↦ omega arith | then-rows-columns-via-else-rows-columns+then-rows-lengths w ↦ omega arith ])

pub returns-in_default : goal.returns-in_default
returns-in_default c = ListsVerdict.parallel (omega arith) (omega arith) (spans_wrong _ _ _ c.in_default.ensures)

pub loop-row-init : goal.loop-row-init
loop-row-init c =
    let i = c.into_iter-row-iterator.ensures.into_iter_gives in
    let z = c.zip-row-items.ensures in
    let y = c.zip.ensures in
    lists_whole (ap (λ s. iter_rest (zip_first (zip_first s))) i ∙ (ap (λ s. iter_rest (zip_first s)) z.first ∙ (ap iter_rest y.first ∙ c.iter.ensures.rest)))
    (ap (λ s. iter_rest (zip_second (zip_first s))) i ∙ (ap (λ s. iter_rest (zip_second s)) z.first ∙ y.second.0))
    (ap (λ s. iter_rest (zip_second s)) i ∙ z.second.0)
    (omega arith) (omega arith)

pub returns-in_default-turn : goal.returns-in_default-turn
returns-in_default-turn c =
    let s = c.in-Some-2.ensures.steps in
    lists_lost c.loop-row.invariant s.0.0 s.0.1 s.1 (omega arith) (omega arith) c.in-Some.ensures.0 c.in_default-turn.ensures

pub loop-row-preserved : goal.loop-row-preserved
loop-row-preserved c =
    let s = c.in-Some-2.ensures.steps in
    lists_step c.loop-row.invariant s.0.0 s.0.1 s.1 c.in-Some-turn.ensures

pub returns : goal.returns
returns c =
    let h = c.loop-row.invariant in
    lists_verdict h (omega arith) (omega arith)
    (elim c.in-None.ensures.steps [
      | inl u ↦ elim u.1 [ inl v ↦ v.1.0 | inr v ↦ omega (arith, h.columns, v.1.0) ]
      | inr u ↦ omega (arith, h.lengths, u.1.0)
    ])
    _ c.finish.ensures
