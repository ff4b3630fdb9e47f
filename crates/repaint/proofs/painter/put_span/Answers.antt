-- `repaint::painter::put_span` meets its contract.
use mathlib.Core.Path.{refl}
use Rattle.std.specs.Prelude.{◌+◌, ◌-◌}
use native.Mathlib.Omega.{arith}
use Rattle.repaint.proofs.Forwards.{span_some, span_none}
use Rattle.repaint.proofs.painter.put_span.Goals as goal

pub bounds-rows-n : goal.bounds-rows-n
bounds-rows-n c = c.requires.1.0 c.if-at-end.true

pub bounds-columns-n : goal.bounds-columns-n
bounds-columns-n c = c.requires.1.1.0 c.if-at-end.true

pub bounds-lengths-n : goal.bounds-lengths-n
bounds-lengths-n c = c.requires.1.1.1.0 c.if-at-end.true

pub returns-then-at-end : goal.returns-then-at-end
returns-then-at-end c =
    let x = c.args in
    λ b e. span_some b x.at (x.end - x.at) x.n x.rows.now x.columns.now x.lengths.now (x.n + 1) (omega (arith, c.if-at-end.true))
    (omega (arith, e, c.requires.0.0, c.requires.0.1)) refl

pub returns : goal.returns
returns c =
    let x = c.args in
    λ b e. span_none b x.at (x.end - x.at) x.n x.rows.now x.columns.now x.lengths.now (omega (arith, c.if-at-end.false))
