-- `page::text::send_row` meets its contract. The loop: what goes from the next cell on is what goes from the first.
use Prim.Native.Nat.{◌-◌}
use Rattle.page.proofs.Sends.{Rowing}
use Rattle.page.proofs.text.send_row.Given as goal

abbrev pub invariant-loop-n : goal.invariant-loop-n
invariant-loop-n l =
    Rowing l.page l.all l.follows l.from l.end l.start l.initial.room l.at l.n l.after l.room

abbrev pub decreases-loop-n : goal.decreases-loop-n
decreases-loop-n l =
    l.end - l.at
