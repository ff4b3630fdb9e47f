-- `page::text::send_rows` meets its contract. The loop: what goes from the next cell on is what goes from the first.
use Prim.Native.Nat.{◌-◌}
use Rattle.rules.specs.Row.{columns}
use Rattle.page.proofs.Sends.{Going}
use Rattle.page.proofs.text.send_rows.Given as goal

abbrev pub invariant-loop-replied : goal.invariant-loop-replied
invariant-loop-replied l =
    Going (columns l.wide) l.page l.to l.all l.segment l.from l.start l.initial.room l.at l.replied l.after l.end l.room

abbrev pub decreases-loop-replied : goal.decreases-loop-replied
decreases-loop-replied l =
    l.to - l.at
