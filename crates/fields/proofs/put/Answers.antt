-- `fields::put` meets its contract. The loop: the cells up to the next one are in the room.
use mathlib.Core.Path.{◌≡◌}
use mathlib.Core.List.{map}
use native.Mathlib.Omega.{arith}
use lib.Seq.{slice}
use Rattle.rules.specs.Cell.{sent}
use Rattle.fields.proofs.Texts.{text_size, over_none, over_next, length_over}
use Rattle.fields.proofs.put.Goals as goal

pub loop-i-init : goal.loop-i-init
loop-i-init c = (
  omega arith,
  (
    omega arith,
    over_none c.args.from c.args.page.now
        c.args.room.now,
  ),
)

pub overflow_sub-room : goal.overflow_sub-room
overflow_sub-room c = c.loop-i.invariant.0

pub bounds-room-i : goal.bounds-room-i
bounds-room-i c =
    let x = c.args in
    let l = c.loop-i in
    let k = c.requires in
    let n = text_size x.from l.i x.page.now (omega (arith, k.1.0, l.invariant.1.0)) in
    rw (l.invariant.1.1, length_over (map sent (slice x.from l.i x.page.now)) x.room.now (omega (arith, n, k, l.invariant.1.0)))
    (omega (arith, k, l.invariant.0, c.loop-i-test.true))

pub loop-i-preserved : goal.loop-i-preserved
loop-i-preserved c =
    let x = c.args in
    let l = c.loop-i in
    let k = c.requires in (
      omega (arith, l.invariant.0),
      (
        omega (arith, c.loop-i-test.true),
        rw l.invariant.1.1 (over_next x.from l.i x.page.now x.room.now l.invariant.0
            (omega (arith, k.1.0, c.loop-i-test.true)) (omega (arith, k, l.invariant.0, c.loop-i-test.true))
            c.sent_code.ensures),
      ),
    )

pub shape_of-room : goal.shape_of-room
shape_of-room c =
    let x = c.args in
    let l = c.loop-i in
    let k = c.requires in
    let n = text_size x.from l.i x.page.now (omega (arith, k.1.0, l.invariant.1.0)) in
    rw l.invariant.1.1 (length_over (map sent (slice x.from l.i x.page.now)) x.room.now (omega (arith, n, k, l.invariant.1.0)))

pub returns : goal.returns
returns c =
    let x = c.args in
    let l = c.loop-i in
    let e : l.i ≡ x.to = omega (arith, l.invariant.1.0, c.loop-i-test.false) in
    rw e at l.invariant.1.1
