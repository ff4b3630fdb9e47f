-- `plan::moves::back_tab_cell` meets its contract.
use Rattle.std.specs.Prelude.{◌≤◌, true}
use mathlib.Core.Path.{◌∙◌}
use native.Mathlib.Omega.{arith}
use Rattle.rules.specs.Plan.{back_tab_cell}
use Rattle.rules.proofs.Places.{previous_tab_below}
use Rattle.plan.proofs.Ranges.{previous_field_range}
use Rattle.plan.proofs.moves.back_tab_cell.Goals as goal

pub overflow_cast-result : goal.overflow_cast-result
unfolding back_tab_cell
overflow_cast-result c =
    omega (
      arith,
      previous_field_range c.args.core.screen c.requires.1 true c.args.page.now c.requires.0
          c.segment_start-start.ensures c.cursor_of-at.ensures c.segment_end-end.ensures c.previous_field.ensures,
    )

pub returns-then-core : goal.returns-then-core
unfolding back_tab_cell
returns-then-core c = c.previous_field.ensures ∙ rw (c.segment_start-start.ensures, c.segment_end-end.ensures, c.cursor_of-at.ensures, c.if-core.true)

pub previous_tab-column-requires : goal.previous_tab-column-requires
unfolding back_tab_cell
previous_tab-column-requires c = omega (arith, c.cursor_column.ensures, c.requires.1.placed)

pub overflow_cast-result-2 : goal.overflow_cast-result-2
unfolding back_tab_cell
overflow_cast-result-2 c =
    let tab_column : c.previous_tab-column.result ≤ c.cursor_column.result =
    rw c.previous_tab-column.ensures (previous_tab_below c.args.tabs _) in
    omega (arith, tab_column, c.cursor_column.ensures, c.requires.1.placed)

pub overflow_add-result : goal.overflow_add-result
unfolding back_tab_cell
overflow_add-result c =
    let tab_column : c.previous_tab-column.result ≤ c.cursor_column.result =
    rw c.previous_tab-column.ensures (previous_tab_below c.args.tabs _) in
    omega (arith, tab_column, c.row_start.ensures, c.cursor_column.ensures, c.requires.1)

pub returns : goal.returns
unfolding back_tab_cell
returns c = rw (c.if-core.false, c.row_start.ensures, c.previous_tab-column.ensures, c.cursor_column.ensures)
