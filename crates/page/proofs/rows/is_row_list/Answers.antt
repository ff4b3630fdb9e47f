-- `page::rows::is_row_list` meets its contract.
use mathlib.Core.Path.{◌∙◌, ap}
use Rattle.rules.specs.Cell.{same}
use Rattle.rules.specs.Row.{columns}
use Rattle.rules.specs.Search.{guarded_at}
use Rattle.rules.proofs.RowSteps.{length_list}
use Rattle.page.proofs.RowList.{equal_same, same_length}
use Rattle.page.proofs.rows.is_row_list.Goals as goal

pub returns-then-rows-ne48 : goal.returns-then-rows-ne48
returns-then-rows-ne48 c =
    let x = c.args in
    same_length x.rows.now _ (λ e. c.if-rows-ne48.true (e ∙ length_list (columns x.wide) (guarded_at x.protect x.page.now)))

pub returns : goal.returns
returns c =
    let rows = c.args.rows.now in
    c.eq.ensures ∙ equal_same rows c.as_slice.result.now ∙ ap (same rows) (c.as_slice.ensures ∙ c.rebuild.ensures)
