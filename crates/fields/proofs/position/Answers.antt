-- `fields::position` meets its contract.
use mathlib.Core.Path.{◌∙◌}
use native.Mathlib.Omega.{arith}
use Rattle.rules.specs.Row.{columns}
use Rattle.fields.specs.Given.{refusal_number, position_given}
use Rattle.fields.proofs.Reading.{some_columns, no_page_position, outside, inside, placed}
use Rattle.fields.proofs.position.Goals as goal

pub returns-in_default : goal.returns-in_default
unfolding refusal_number position_given
returns-in_default c = no_page_position c.args.cells c.in_default.ensures c.args.at

pub returns-then-cells-at : goal.returns-then-cells-at
unfolding refusal_number position_given
returns-then-cells-at c = outside c.args.cells c.in-Some.ensures (some_columns c.in-Some.wide) c.args.at c.if-cells-at.true

pub returns : goal.returns
unfolding refusal_number position_given
returns c =
    placed (columns c.in-Some.wide) c.args.at c.row_of.ensures c.column_of.ensures
    ∙ inside c.args.cells c.in-Some.ensures (some_columns c.in-Some.wide) c.args.at (omega (arith, c.if-cells-at.false))
