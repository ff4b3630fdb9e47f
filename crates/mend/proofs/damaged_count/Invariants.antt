-- `mend::damaged_count` meets its contract. The loop: the cells before the next one are counted.
use Rattle.std.proofs.Common.{◌≡◌, length, take}
use Rattle.mend.specs.Mend.{damaged}
use Rattle.mend.proofs.damaged_count.Given as goal

abbrev pub invariant-loop-v : goal.invariant-loop-v
invariant-loop-v l = l.n ≡ length (damaged l.personality 0 (take l.v-index l.page))
