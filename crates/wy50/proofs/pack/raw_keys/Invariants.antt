-- `wy50::pack::raw_keys` meets its contract. The loops: the first 8 i and j texts are translated.
use Prim.Native.Nat.{◌+◌, ◌*◌}
use Rattle.wy50.specs.Raw.{raw_key}
use Rattle.wy50.proofs.Loops.{Translated}
use Rattle.wy50.proofs.pack.raw_keys.Given as goal

abbrev pub invariant-loop-i : goal.invariant-loop-i
invariant-loop-i g l = Translated raw_key l.keys l.t (8 * l.i)

abbrev pub invariant-loop-j : goal.invariant-loop-j
invariant-loop-j g l = Translated raw_key l.keys l.t (8 * l.i + l.j)
