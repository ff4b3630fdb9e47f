-- `repaint::judge_spans` meets its contract. The loop: the spans from here on, passed from the cell reached, give what all of them give.
use Rattle.std.specs.Prelude.{◌≡◌, drop}
use Rattle.repaint.specs.Pass.{passed}
use Rattle.repaint.proofs.judge_spans.Given as goal

abbrev pub invariant-loop-s : goal.invariant-loop-s
invariant-loop-s l = passed l.before l.after l.next (drop l.s-index l.spans) ≡ passed l.before l.after 0 l.spans
