-- `page::text::send_row` meets its contract. The loop: what goes from the next cell on is what goes from the first.
use native.Mathlib.Omega.{arith}
use Rattle.page.proofs.Sends.{row_begin, row_full, row_stop, fs_fits, row_next}
use Rattle.page.proofs.text.send_row.Goals as goal

pub loop-n-init : goal.loop-n-init
loop-n-init c = row_begin c.requires.0 c.requires.1.1.1

pub stretch_end-first-requires : goal.stretch_end-first-requires
stretch_end-first-requires c = (c.loop-n.invariant.most, (c.requires.1.0, c.requires.1.1.0))

pub overflow_sub-room : goal.overflow_sub-room
overflow_sub-room c = c.loop-n.invariant.fits

pub cut-stop-requires : goal.cut-stop-requires
cut-stop-requires c = (c.stretch_end-first.ensures.to, omega (arith, c.requires.1.0, c.requires.1.1.0))

pub send_stretch-next-requires : goal.send_stretch-next-requires
send_stretch-next-requires c = (
  c.cut-stop.ensures.0,
  (omega (arith, c.cut-stop.ensures, c.requires.1.0), (c.requires.1.1.0, omega (arith, c.cut-stop.ensures, c.loop-n.invariant.fits))),
)

pub overflow_sub-n : goal.overflow_sub-n
overflow_sub-n c = c.send_stretch-next.ensures.from

pub overflow_add-n : goal.overflow_add-n
overflow_add-n c =
    omega (
      arith,
      c.send_stretch-next.ensures.from,
      c.send_stretch-next.ensures.to,
      c.cut-stop.ensures,
      c.loop-n.invariant.fits,
    )

pub returns-then-next-stop : goal.returns-then-next-stop
returns-then-next-stop c =
    row_stop c.loop-n.invariant c.loop-n-test.true c.stretch_end-first.ensures c.cut-stop.ensures c.send_stretch-next.ensures
    c.if-next-stop.true

pub bounds-room-n : goal.bounds-room-n
bounds-room-n c = fs_fits c.loop-n.invariant c.loop-n-test.true c.stretch_end-first.ensures c.cut-stop.ensures c.send_stretch-next.ensures c.if-next-stop.false

pub overflow_add-n-in-loop-n : goal.overflow_add-n-in-loop-n
overflow_add-n-in-loop-n c =
    omega (
      arith,
      fs_fits c.loop-n.invariant c.loop-n-test.true c.stretch_end-first.ensures c.cut-stop.ensures c.send_stretch-next.ensures
          c.if-next-stop.false,
    )

pub overflow_add-at : goal.overflow_add-at
overflow_add-at c = omega (arith, c.send_stretch-next.ensures.to, c.cut-stop.ensures, c.requires.1.0, c.requires.1.1.0)

pub loop-n-smaller : goal.loop-n-smaller
loop-n-smaller c =
    omega (
      arith,
      c.stretch_end-first.ensures.from,
      c.send_stretch-next.ensures.from,
      c.send_stretch-next.ensures.to,
      c.cut-stop.ensures,
      c.if-next-stop.false,
    )

pub loop-n-preserved : goal.loop-n-preserved
loop-n-preserved c = row_next c.loop-n.invariant c.loop-n-test.true c.stretch_end-first.ensures c.cut-stop.ensures c.send_stretch-next.ensures c.if-next-stop.false

pub returns : goal.returns
returns c = row_full c.loop-n.invariant c.loop-n-test.false
