-- `plan::moves::address_plan` meets its contract.
use Rattle.std.specs.Prelude.{◌≡◌, false}
use mathlib.Core.Path.{sym, ◌∙◌}
use native.Mathlib.Omega.{arith}
use Rattle.rules.specs.Cell.{both, among}
use Rattle.rules.specs.Plan.{address_plan}
use Rattle.rules.proofs.Rows.{columns_width, width_range}
use Rattle.rules.proofs.Tests.{among_parts}
use Rattle.plan.proofs.moves.address_plan.Goals as goal
use Rattle.plan.proofs.moves.address_plan.Goals.{else-among-via-then-among+else-among-2, else-among-via-else-among}

pub among-requires-then-among : goal.among-requires-then-among
unfolding address_plan
among-requires-then-among c = omega (arith, c.requires, width_range (columns_width c.args.x.wide))

pub cell_at-requires : goal.cell_at-requires
unfolding address_plan
cell_at-requires c =
    let x = c.args in
    let row = among_parts x.base _ x.row (sym c.among.ensures ∙ c.if-among.true) in
    let column = among_parts x.base _ x.column (sym c.among-then-among.ensures ∙ c.if-among-2.true) in
    omega (arith, row, column, c.segment_top-top.ensures, c.segment_bottom.ensures, c.requires)

pub returns-then-among-2 : goal.returns-then-among-2
unfolding address_plan
returns-then-among-2 c =
    c.settling.ensures
    ∙ rw (
      c.with_screen.ensures,
      c.cell_at.ensures,
      ← c.segment_top-top.ensures,
      ← c.segment_bottom.ensures,
      ← c.among.ensures,
      c.if-among.true,
      ← c.among-then-among.ensures,
      c.if-among-2.true,
    )

pub returns : goal.returns
unfolding address_plan
returns c =
    let x = c.args in
    let outside : both c.among.result (among x.base x.most x.column) ≡ false =
    elim c.else-among.branch [
      | else-among-via-then-among+else-among-2 w ↦ rw (w.if-among.true, ← w.among-then-among.ensures, w.if-among-2.false)
      | else-among-via-else-among w ↦ rw w.if-among.false
    ] in
    c.refusing.ensures ∙ rw (← c.segment_top-top.ensures, ← c.segment_bottom.ensures, ← c.among.ensures, outside)
