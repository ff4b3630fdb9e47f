-- `page::text::send_stretch` meets its contract. The loop: what goes from the next cell on is what goes from the first.
use Rattle.page.proofs.Sends.{Putting}
use Rattle.page.proofs.text.send_stretch.Given as goal

abbrev pub invariant-loop-i : goal.invariant-loop-i
invariant-loop-i l =
    Putting l.page l.all l.from l.end l.n l.initial.room l.i l.k l.room
