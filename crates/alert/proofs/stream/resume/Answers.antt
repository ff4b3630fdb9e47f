-- `alert::stream::resume` meets its contract. Of the terminal it uses what its run gives, and that a reply fits its room.
use Rattle.std.proofs.Common.{sym, arith, length-take-le}
use Rattle.alert.proofs.stream.resume.Goals as goal

pub slice_bounds-keep-end : goal.slice_bounds-keep-end
slice_bounds-keep-end c =
    let s = c.run-r in
    omega (arith, s.ensures.fits, s.auto)

pub slice_bounds-keep-end-2 : goal.slice_bounds-keep-end-2
slice_bounds-keep-end-2 c =
    let s = c.run-r in
    sym (length-take-le _ _ (omega (arith, s.ensures.fits, s.auto)))

pub returns : goal.returns
returns c =
    let s = c.run-r in
    record { state = s.ensures.state; page = s.ensures.page }
