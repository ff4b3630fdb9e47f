-- `alert::show_guarded` is safe and ends.
use Rattle.std.proofs.Common.{sym, arith, length-take-le, rules}
use Rattle.alert.proofs.Puts.{within}
use Rattle.alert.proofs.show_guarded.Goals as goal

pub line-n-requires : goal.line-n-requires
line-n-requires g c = (c.requires.0, c.requires.1.0)

pub slice_bounds-room-end : goal.slice_bounds-room-end
slice_bounds-room-end g c = let w = within c.line-n.ensures (omega arith) in search rules

pub slice_bounds-text-end : goal.slice_bounds-text-end
slice_bounds-text-end g c = let w = within c.line-n.ensures (omega arith) in sym (length-take-le _ _ (search rules))
