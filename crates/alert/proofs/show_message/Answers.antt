-- `alert::show_message` is safe and ends.
use Rattle.std.proofs.Common.{sym, arith, length-take-le, rules}
use Rattle.alert.proofs.Puts.{within}
use Rattle.alert.proofs.show_message.Goals as goal

pub slice_bounds-room-end : goal.slice_bounds-room-end
slice_bounds-room-end g c = let w = within c.message-n.ensures.1 (omega arith) in search rules

pub slice_bounds-text-end : goal.slice_bounds-text-end
slice_bounds-text-end g c = let w = within c.message-n.ensures.1 (omega arith) in sym (length-take-le _ _ (search rules))
