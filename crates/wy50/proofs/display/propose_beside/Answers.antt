-- `wy50::display::propose_beside` meets its contract.
use mathlib.Core.Path.{sym}
use native.Mathlib.Omega.{arith}
use Rattle.wy50.proofs.RepaintCalls.{propose_fits, propose_all}
use Rattle.wy50.proofs.display.propose_beside.Goals as goal

pub put_spans-requires : goal.put_spans-requires
put_spans-requires c =
    let x = c.args in
    let p = c.requires in
    let k = c.propose.auto in
    let f = propose_fits x.personality x.before.now x.after.now x.bytes.now x.rows.now x.columns.now x.lengths.now
    c.propose.ensures in
    let l = p.0 in
    rw c.told-t.ensures (
      (omega (arith, f, k.rows), (omega (arith, f, k.columns, p.1.0), omega (arith, f, k.lengths, p.1.1))),
      (omega (arith, f, p.0), omega (arith, f, p.0)),
    )

pub returns : goal.returns
returns c =
    let x = c.args in
    let p = c.requires in
    rw c.told-t.ensures (
    propose_all x.personality x.before.now x.after.now x.numbers.now x.bytes.now x.rows.now x.columns.now
    x.lengths.now
    p.0 p.1.0 p.1.1 c.propose.ensures (rw (sym c.told-t.ensures) c.put_spans.ensures))
