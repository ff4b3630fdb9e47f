-- `repaint::judge_lists` meets its contract: what is left of the list, from the cell reached, ends as the whole does. Assumes nothing.
use Rattle.std.specs.Iterator.Adapters.{zip_first, zip_second}
use Rattle.std.specs.Slice.Iter.{iter_rest}
use Rattle.repaint.proofs.Verdicts.{Left}
use Rattle.repaint.proofs.judge_lists.Given as goal

abbrev pub invariant-loop-row : goal.invariant-loop-row
invariant-loop-row l =
    let s = l.row-iterator in
    let t = zip_first s in
    Left l.before l.after l.rows l.columns l.lengths l.next (iter_rest (zip_first t)) (iter_rest (zip_second t)) (iter_rest (zip_second s))
