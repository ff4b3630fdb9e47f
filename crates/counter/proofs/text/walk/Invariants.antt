-- `counter::text::walk` meets its contract. The loop: the count from here on is the whole count.
use Rattle.std.proofs.Common.{◌≡◌, drop}
use Rattle.counter.specs.Walk.{no_tally, walked, Within}
use Rattle.counter.proofs.text.walk.Given as goal

abbrev pub invariant-loop-b : goal.invariant-loop-b
invariant-loop-b l = Within l.t l.b-index × (walked l.cut l.t (drop l.b-index l.text) ≡ walked l.cut no_tally l.text)
