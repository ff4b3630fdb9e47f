-- `page::text::stretch_end` meets its contract. The loop: no cell so far gives a byte.
use Rattle.page.proofs.Sends.{Skipping}
use Rattle.page.proofs.text.stretch_end.Given as goal

abbrev pub invariant-loop-i : goal.invariant-loop-i
invariant-loop-i l =
    Skipping l.page l.all l.from l.end l.i
