-- `page::rows::open_count` meets its contract. The loop: the cells counted, and those to come, are all.
use mathlib.Core.List.{[], ◌∷◌}
use native.Mathlib.Omega.{arith}
use lib.ListN.{get_or}
use Rattle.rules.specs.Search.{guarded_at}
use Rattle.rules.proofs.Searching.{length_guards}
use Rattle.page.proofs.RowList.{count_step, count_none, count_most}
use Rattle.page.proofs.rows.open_count.Goals as goal

pub overflow_add-n : goal.overflow_add-n
overflow_add-n c =
    let x = c.args in
    let l = c.loop-v in
    let one = guarded_at x.protect (get_or x.part.now l.v-index 0 ∷ []) in
    omega (
      arith,
      c.requires,
      c.open_cell-n.ensures,
      count_most one,
      length_guards x.protect (get_or x.part.now l.v-index 0 ∷ []),
    )

pub loop-v-preserved : goal.loop-v-preserved
loop-v-preserved c =
    let x = c.args in
    let l = c.loop-v in
    let one = guarded_at x.protect (get_or x.part.now l.v-index 0 ∷ []) in
    let s = count_step x.protect x.part.now l.v-index (omega arith) in
    omega (arith, count_most one, length_guards x.protect (get_or x.part.now l.v-index 0 ∷ []))

pub returns : goal.returns
returns c =
    let x = c.args in
    let l = c.loop-v in
    omega (arith, count_none x.protect x.part.now l.v-index (omega arith))
