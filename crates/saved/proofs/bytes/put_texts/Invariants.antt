-- `saved::bytes::put_texts` meets its contract.
use Rattle.saved.specs.SetupBytes.{value_in}
use Rattle.saved.proofs.Puts.{Texting}
use Rattle.saved.proofs.bytes.put_texts.Given as goal

abbrev pub invariant-loop-i : goal.invariant-loop-i
invariant-loop-i l = Texting 0 l.x.end (value_in l.x.half l.x.first l.x.second) l.texts l.start l.initial.out l.i l.n l.out
