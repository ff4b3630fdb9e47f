-- `page::search::is_guarded_at` meets its contract.
use mathlib.Core.Path.{sym, ◌∙◌}
use Rattle.rules.proofs.Searching.{guard_at}
use Rattle.page.proofs.search.is_guarded_at.Goals as goal

pub returns : goal.returns
returns c =
    let x = c.args in
    c.is_guarded.ensures ∙ sym (guard_at x.protect x.page.now x.at c.requires)
