-- `wy50::display::put_spans` meets its contract.
use native.Mathlib.Omega.{arith}
use Rattle.wy50.proofs.RepaintCalls.{put_on, put_done}
use Rattle.wy50.proofs.display.put_spans.Goals as goal

pub loop-i-preserved : goal.loop-i-preserved
loop-i-preserved c =
    let x = c.args in
    let p = c.requires in
    let l = c.loop-i in
    put_on x.n x.rows.now x.columns.now x.lengths.now x.numbers.now p.0 l.i (omega arith) p.1.1 l.invariant

pub returns : goal.returns
returns c =
    let x = c.args in
    let l = c.loop-i in
    put_done x.n x.rows.now x.columns.now x.lengths.now x.numbers.now c.requires.0 l.i (omega arith) (omega arith) l.invariant
