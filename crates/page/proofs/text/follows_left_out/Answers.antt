-- `page::text::follows_left_out` meets its contract.
use mathlib.Core.Path.{sym, ◌∙◌}
use borrow.Author.Tests.{eq-eqb, ne_eqb}
use Rattle.rules.specs.Row.{columns, column_of}
use Rattle.rules.specs.Send.{follows_left_out}
use Rattle.page.proofs.text.follows_left_out.Goals as goal

pub returns-then-column_of-ne0 : goal.returns-then-column_of-ne0
unfolding follows_left_out
returns-then-column_of-ne0 c =
    rw (ne_eqb (column_of (columns c.args.wide) c.args.at) 0 (λ e. c.if-column_of-ne0.true (c.column_of.ensures ∙ e))) c.left_out.ensures

pub returns-else-column_of-ne0 : goal.returns-else-column_of-ne0
unfolding follows_left_out
returns-else-column_of-ne0 c =
    rw (
      eq-eqb c.column_of.result 0 c.if-column_of-ne0.false,
      eq-eqb (column_of (columns c.args.wide) c.args.at) 0 (sym c.column_of.ensures ∙ c.if-column_of-ne0.false),
    )
