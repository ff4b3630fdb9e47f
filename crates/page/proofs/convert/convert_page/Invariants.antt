-- `page::convert::convert_page` meets its contract. The loop: the cells put, and those of before.
use mathlib.Core.Path.{◌≡◌}
use Prim.Native.Nat.{◌≤◌}
use lib.ListN.{length}
use Rattle.rules.specs.Row.{columns}
use Rattle.rules.specs.Convert.{cell_for, other_width}
use Rattle.page.proofs.Converting.{put_to}
use Rattle.page.proofs.convert.convert_page.Given as goal

abbrev pub invariant-loop-i : goal.invariant-loop-i
invariant-loop-i l =
    (l.i ≤ length l.initial.target) × ((length l.target ≡ length l.initial.target) × (l.target ≡ put_to (cell_for (columns l.wide) (other_width l.wide) l.page) l.i l.initial.target))
