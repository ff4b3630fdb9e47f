-- `repaint::painter::put_stretch` meets its contract.
use Rattle.std.specs.Prelude.{◌-◌, drop}
use native.Mathlib.Omega.{arith}
use lib.ListN.{length-take}
use Rattle.repaint.proofs.Forwards.{one_size, stretch_some, stretch_none}
use Rattle.repaint.proofs.painter.put_stretch.Goals as goal

pub put-m-requires : goal.put-m-requires
put-m-requires c =
    let x = c.args in
    omega (
      arith,
      c.requires.1.1,
      one_size x.after.now x.at (x.end - x.at) x.remembered
          (omega (arith, c.if-at-end.true)),
    )

pub slice_bounds-put_cells-end : goal.slice_bounds-put_cells-end
slice_bounds-put_cells-end c =
    omega (
      arith,
      c.requires.0.1,
      c.requires.1.0,
    )

pub put_cells-requires : goal.put_cells-requires
put_cells-requires c =
    let x = c.args in
    let k = c.requires in
    let p = c.put-m in
    let s = one_size x.after.now x.at (x.end - x.at) x.remembered
    (omega (arith, c.if-at-end.true)) in (
      omega (arith, k.0.1, k.0.0, length-take (x.end - x.at) (drop x.at x.after.now)),
      omega
          (arith, k.1.1, s, p.ensures.place, p.auto.out),
    )

pub returns-then-at-end : goal.returns-then-at-end
returns-then-at-end c =
    let x = c.args in
    stretch_some x.after.now x.at (x.end - x.at) x.remembered
    (omega (arith, c.if-at-end.true))
    c.put-m.ensures c.put_cells.ensures

pub returns : goal.returns
returns c =
    let x = c.args in
    stretch_none x.after.now x.at (x.end - x.at) x.remembered x.n x.out.now (omega (arith, c.if-at-end.false))
