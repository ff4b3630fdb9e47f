-- `repaint::judge_spans` meets its contract.
use native.Mathlib.Omega.{arith}
use Rattle.repaint.proofs.Verdicts.{spans_wrong, spans_lost, pass_on, pass_verdict}
use Rattle.repaint.proofs.judge_spans.Goals as goal

pub returns-in_default : goal.returns-in_default
returns-in_default c = spans_wrong _ _ _ c.in_default.ensures

pub returns-in_default-turn : goal.returns-in_default-turn
returns-in_default-turn c = spans_lost _ _ c.args.spans.now _ c.loop-s.s-index c.in-Some.ensures.0 (omega arith) c.loop-s.invariant c.in_default-turn.ensures

pub loop-s-preserved : goal.loop-s-preserved
loop-s-preserved c = pass_on _ _ c.args.spans.now _ c.loop-s.s-index _ (omega arith) c.loop-s.invariant c.in-Some-turn.ensures

pub returns : goal.returns
returns c = pass_verdict _ _ c.args.spans.now _ c.loop-s.s-index _ (omega arith) c.loop-s.invariant c.finish.ensures
