-- `terminal::rebuild_rows` meets its contract.
use mathlib.Core.Path.{sym, ◌∙◌}
use Rattle.terminal.proofs.RowCalls.{not_rebuilt, no_list, no_good, rebuilt_all, long_page}
use Rattle.terminal.proofs.rebuild_rows.Goals.{then-rows-ne48-via-then-rows-ne48, then-rows-ne48-via-else-rows-ne48+then-not-is_good}
use Rattle.terminal.proofs.rebuild_rows.Goals as goal

pub returns-then-rows-ne48 : goal.returns-then-rows-ne48
returns-then-rows-ne48 c =
    not_rebuilt _ _ _
    (elim c.then-rows-ne48.branch [
      | then-rows-ne48-via-then-rows-ne48 w ↦ no_list _ _ _ w.if-rows-ne48.true
      | then-rows-ne48-via-else-rows-ne48+then-not-is_good w ↦ no_good _ _ _ (sym w.is_good.ensures ∙ w.if-not-is_good.true)
    ])

pub rebuild-requires : goal.rebuild-requires
rebuild-requires c = (long_page _ _ (sym c.is_good.ensures ∙ c.if-not-is_good.false), c.if-rows-ne48.false)

pub returns : goal.returns
returns c = rebuilt_all _ _ _ c.if-rows-ne48.false (sym c.is_good.ensures ∙ c.if-not-is_good.false) c.rebuild.ensures
