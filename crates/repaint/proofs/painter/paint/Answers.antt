-- `repaint::painter::paint` meets its contract.
use native.Mathlib.Omega.{arith}
use Rattle.repaint.proofs.Forwards.{going_begin, end_range, nearer, span_fits, span_few, bytes_fit, going_on, going_done}
use Rattle.repaint.proofs.painter.paint.Goals as goal

pub loop-at-init : goal.loop-at-init
loop-at-init c =
    let x = c.args in
    going_begin x.before.now x.after.now x.rows.now x.columns.now x.lengths.now x.out.now

pub stretch_end-end-requires : goal.stretch_end-end-requires
stretch_end-end-requires c = let k = c.requires in (k.0.0, (k.0.1, c.loop-at.invariant.range))

pub put_span-n-requires : goal.put_span-n-requires
put_span-n-requires c =
    let x = c.args in
    let k = c.requires in
    let l = c.loop-at in
    let h = c.loop-at-test.true in
    let e = c.stretch_end-end.ensures in
    let g = l.invariant in
    let s = span_fits x.before.now x.after.now k.0.0 k.0.1 l.at _ h e g in (
      end_range x.before.now x.after.now k.0.0 k.0.1 l.at _ h e,
      (
        s l.rows x.rows.now g.long_x k.1.rows,
        (
          s l.columns x.columns.now g.long_y k.1.columns,
          (
            s l.lengths x.lengths.now g.long_z k.1.lengths,
            span_few x.before.now x.after.now k.0.0 k.0.1
                l.at _ h e g k.1.few,
          ),
        ),
      ),
    )

pub put_stretch-p-requires : goal.put_stretch-p-requires
put_stretch-p-requires c =
    let x = c.args in
    let k = c.requires in
    let l = c.loop-at in
    let h = c.loop-at-test.true in
    let e = c.stretch_end-end.ensures in (
      end_range x.before.now x.after.now k.0.0 k.0.1 l.at _ h e,
      (k.0.1, bytes_fit x.before.now x.after.now k.0.0 k.0.1 l.at _ h e l.invariant k.1.bytes),
    )

pub past-at-requires : goal.past-at-requires
past-at-requires c =
    let x = c.args in
    let k = c.requires in
    let l = c.loop-at in
    let h = c.loop-at-test.true in
    let e = c.stretch_end-end.ensures in
    end_range x.before.now x.after.now k.0.0 k.0.1 l.at _ h e

pub loop-at-smaller : goal.loop-at-smaller
loop-at-smaller c =
    let x = c.args in
    let k = c.requires in
    let l = c.loop-at in
    let h = c.loop-at-test.true in
    let e = c.stretch_end-end.ensures in
    omega (arith, nearer x.before.now x.after.now k.0.0 k.0.1 l.at _ h e c.past-at.ensures, h)

pub loop-at-preserved : goal.loop-at-preserved
loop-at-preserved c =
    let x = c.args in
    let k = c.requires in
    let l = c.loop-at in
    let h = c.loop-at-test.true in
    let e = c.stretch_end-end.ensures in
    let s = c.put_span-n in
    let p = c.put_stretch-p in
    going_on x.before.now x.after.now k.0.0 k.0.1 l.at _ h e l.invariant (s.ensures x.after.now k.0.1) p.ensures
    s.auto.rows s.auto.columns s.auto.lengths p.auto.out c.past-at.ensures

pub shape_of-rows : goal.shape_of-rows
shape_of-rows c = c.loop-at.invariant.long_x

pub shape_of-columns : goal.shape_of-columns
shape_of-columns c = c.loop-at.invariant.long_y

pub shape_of-lengths : goal.shape_of-lengths
shape_of-lengths c = c.loop-at.invariant.long_z

pub shape_of-out : goal.shape_of-out
shape_of-out c = c.loop-at.invariant.long_o

pub returns : goal.returns
returns c =
    going_done c.requires.0.0 (omega (arith, c.loop-at-test.false))
    c.loop-at.invariant
