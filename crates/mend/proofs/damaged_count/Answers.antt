-- `mend::damaged_count` meets its contract. The loop: the cells before the next one are counted.
use mathlib.Core.Bool.{not}
use native.Mathlib.Omega.{arith}
use Rattle.mend.proofs.Mending.{bit_most, bit_added, count_none, count_below, count_next, count_all}
use Rattle.mend.proofs.damaged_count.Goals as goal

pub loop-v-init : goal.loop-v-init
loop-v-init c = count_none c.args.personality c.args.page.now

pub overflow_add-n : goal.overflow_add-n
overflow_add-n c =
    let x = c.args in
    let l = c.loop-v in
    omega (arith, c.requires, count_below x.personality x.page.now l.v-index l.invariant (omega arith), bit_most (not c.is_writable.result))

pub loop-v-preserved : goal.loop-v-preserved
loop-v-preserved c =
    let x = c.args in
    let l = c.loop-v in
    count_next x.personality x.page.now l.v-index l.invariant (omega arith) c.is_writable.ensures (bit_added c.is_writable.result l.n)

pub returns : goal.returns
returns c = let x = c.args in count_all x.personality x.page.now c.loop-v.v-index c.loop-v.invariant (omega arith)
