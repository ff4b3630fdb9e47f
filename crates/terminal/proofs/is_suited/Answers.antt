-- `terminal::is_suited` meets its contract.
use mathlib.Core.Path.{sym, ◌∙◌}
use borrow.Author.Tests.{eqb-true, eqb-false}
use Rattle.terminal.proofs.RowCalls.{suits_none, suits_some}
use Rattle.terminal.proofs.is_suited.Goals as goal

pub returns-then-is_empty : goal.returns-then-is_empty
returns-then-is_empty c =
    let s = c.args in
    c.is_good.ensures ∙ suits_none s.page.now s.rows.now s.state (eqb-true _ _ (sym c.is_empty.ensures ∙ c.if-is_empty.true))

pub returns-else-is_empty : goal.returns-else-is_empty
returns-else-is_empty c =
    let s = c.args in
    c.is_listed.ensures ∙ suits_some s.page.now s.rows.now s.state (eqb-false _ _ (sym c.is_empty.ensures ∙ c.if-is_empty.false))
