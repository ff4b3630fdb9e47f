-- `alert::print::lines::labels` is safe and ends.
use Rattle.std.proofs.Common.{sym, length-take-le, rules}
use Rattle.alert.proofs.print.lines.labels.Goals as goal

pub slice_bounds-line-end : goal.slice_bounds-line-end
slice_bounds-line-end g c = let w = c.trimmed-n.ensures.most in search rules

pub slice_bounds-show_line-end : goal.slice_bounds-show_line-end
slice_bounds-show_line-end g c = let w = c.trimmed-n.ensures.most in sym (length-take-le _ _ (search rules))
