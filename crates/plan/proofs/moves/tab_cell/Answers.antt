-- `plan::moves::tab_cell` meets its contract.
use Rattle.std.specs.Prelude.{◌<◌, true}
use mathlib.Core.Path.{◌∙◌}
use native.Mathlib.Omega.{arith}
use Rattle.rules.specs.Row.{columns}
use Rattle.rules.specs.Plan.{tab_cell}
use Rattle.rules.proofs.Places.{next_tab_below}
use Rattle.plan.proofs.Ranges.{next_field_range}
use Rattle.plan.proofs.moves.tab_cell.Goals as goal

pub overflow_cast-result : goal.overflow_cast-result
unfolding tab_cell
overflow_cast-result c =
    omega (
      arith,
      next_field_range c.args.core.screen c.requires.1 true c.args.page.now c.requires.0
          c.segment_start-start.ensures c.cursor_of-at.ensures c.segment_end-end.ensures c.next_field.ensures,
    )

pub returns-then-core : goal.returns-then-core
unfolding tab_cell
returns-then-core c = c.next_field.ensures ∙ rw (c.segment_start-start.ensures, c.segment_end-end.ensures, c.cursor_of-at.ensures, c.if-core.true)

pub next_tab-column-requires : goal.next_tab-column-requires
unfolding tab_cell
next_tab-column-requires c = omega (arith, c.cursor_column.ensures, c.requires.1.placed)

pub overflow_cast-result-2 : goal.overflow_cast-result-2
unfolding tab_cell
overflow_cast-result-2 c =
    let tab_column : c.next_tab-column.result < columns c.args.core.screen.wide =
    rw c.next_tab-column.ensures
    (next_tab_below _ c.args.tabs _ (omega (arith, c.cursor_column.ensures, c.requires.1.placed))) in
    omega (arith, tab_column, c.requires.1.placed)

pub overflow_add-result : goal.overflow_add-result
unfolding tab_cell
overflow_add-result c =
    let tab_column : c.next_tab-column.result < columns c.args.core.screen.wide =
    rw c.next_tab-column.ensures
    (next_tab_below _ c.args.tabs _ (omega (arith, c.cursor_column.ensures, c.requires.1.placed))) in
    omega (arith, tab_column, c.row_start.ensures, c.requires.1)

pub returns : goal.returns
unfolding tab_cell
returns c = rw (c.if-core.false, c.row_start.ensures, c.next_tab-column.ensures, c.cursor_column.ensures)
