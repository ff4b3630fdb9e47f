-- `wy50::pack::raw_tabs` meets its contract. The loop: the first i tab stops are translated.
use Rattle.wy50.specs.Raw.{flag}
use Rattle.wy50.proofs.Loops.{Translated}
use Rattle.wy50.proofs.pack.raw_tabs.Given as goal

abbrev pub invariant-loop-i : goal.invariant-loop-i
invariant-loop-i l =
    Translated flag l.fn.tabs l.t l.i
