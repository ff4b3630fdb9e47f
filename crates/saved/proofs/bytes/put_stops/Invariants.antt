-- `saved::bytes::put_stops` meets its contract.
use Rattle.saved.specs.SetupBytes.{stop_bytes}
use Rattle.saved.proofs.Puts.{Putting}
use Rattle.saved.proofs.bytes.put_stops.Given as goal

abbrev pub invariant-loop-i : goal.invariant-loop-i
invariant-loop-i l =
    Putting stop_bytes l.stop-items l.start l.initial.out l.i l.n l.out
