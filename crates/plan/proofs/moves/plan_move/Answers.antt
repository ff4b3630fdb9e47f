-- `plan::moves::plan_move` meets its contract.
use mathlib.Core.Path.{◌∙◌}
use native.Mathlib.Omega.{arith}
use Rattle.rules.specs.Plan.{move_plan}
use Rattle.plan.proofs.moves.plan_move.Goals as goal

pub down_plan-requires : goal.down_plan-requires
unfolding move_plan
down_plan-requires c = (c.requires.1, omega (arith, c.requires.1, c.cursor_of-at.ensures))

pub down_plan-requires-in-NextLine : goal.down_plan-requires-in-NextLine
unfolding move_plan
down_plan-requires-in-NextLine c = (c.requires.1, omega (arith, c.requires.1, c.row_start-in-NextLine.ensures))

pub address_plan-requires : goal.address_plan-requires
unfolding move_plan
address_plan-requires c = omega (arith, c.requires.1)

pub address_plan-requires-in-Decimal : goal.address_plan-requires-in-Decimal
unfolding move_plan
address_plan-requires-in-Decimal c = omega (arith, c.requires.1, c.width_of.ensures)

pub returns-in-Back : goal.returns-in-Back
unfolding move_plan
returns-in-Back c = c.settling.ensures ∙ rw (c.back_cell.ensures, c.in-Back.is)

pub returns-in-Right : goal.returns-in-Right
unfolding move_plan
returns-in-Right c = c.settling-in-Right.ensures ∙ rw (c.next_cell.ensures, c.in-Right.is)

pub returns-in-Return : goal.returns-in-Return
unfolding move_plan
returns-in-Return c = c.settling-in-Return.ensures ∙ rw (c.row_start.ensures, c.in-Return.is)

pub returns-in-Home : goal.returns-in-Home
unfolding move_plan
returns-in-Home c = c.settling-in-Home.ensures ∙ rw (c.segment_start.ensures, c.in-Home.is)

pub returns-in-Up : goal.returns-in-Up
unfolding move_plan
returns-in-Up c = c.settling-in-Up.ensures ∙ rw (c.up_cell.ensures, c.in-Up.is)

pub returns-in-Reverse : goal.returns-in-Reverse
unfolding move_plan
returns-in-Reverse c = c.reverse_plan.ensures ∙ rw c.in-Reverse.is

pub returns-in-Down : goal.returns-in-Down
unfolding move_plan
returns-in-Down c = c.down_plan.ensures ∙ rw (c.cursor_of-at.ensures, c.in-Down.is)

pub returns-in-NextLine : goal.returns-in-NextLine
unfolding move_plan
returns-in-NextLine c = c.down_plan-in-NextLine.ensures ∙ rw (c.row_start-in-NextLine.ensures, c.in-NextLine.is)

pub returns-in-Tab : goal.returns-in-Tab
unfolding move_plan
returns-in-Tab c = c.settling-in-Tab.ensures ∙ rw (c.tab_cell.ensures, c.in-Tab.is)

pub returns-in-BackTab : goal.returns-in-BackTab
unfolding move_plan
returns-in-BackTab c = c.settling-in-BackTab.ensures ∙ rw (c.back_tab_cell.ensures, c.in-BackTab.is)

pub returns-in-Address : goal.returns-in-Address
unfolding move_plan
returns-in-Address c = c.address_plan.ensures ∙ rw c.in-Address.is

pub returns-in-Decimal : goal.returns-in-Decimal
unfolding move_plan
returns-in-Decimal c = c.address_plan-in-Decimal.ensures ∙ rw (c.width_of.ensures, c.in-Decimal.is)
