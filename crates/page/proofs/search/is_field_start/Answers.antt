-- `page::search::is_field_start` meets its contract.
use mathlib.Core.Path.{sym, ◌∙◌}
use native.Mathlib.Omega.{arith}
use Rattle.rules.specs.Search.{guarded_at}
use Rattle.rules.proofs.Searching.{start_at, length_guards}
use Rattle.page.proofs.search.is_field_start.Goals as goal

pub returns-then-not-is_guarded_at : goal.returns-then-not-is_guarded_at
returns-then-not-is_guarded_at c =
    let x = c.args in
    let n = length_guards x.protect x.page.now in
    c.is_start.ensures
    ∙ sym (start_at x.first (guarded_at x.protect x.page.now) x.at (omega (arith, c.requires))
    ∙ rw (sym c.is_guarded_at.ensures ∙ c.if-not-is_guarded_at.true))

pub returns-else-not-is_guarded_at : goal.returns-else-not-is_guarded_at
returns-else-not-is_guarded_at c =
    let x = c.args in
    let n = length_guards x.protect x.page.now in
    rw c.if-not-is_guarded_at.false
    (sym (start_at x.first (guarded_at x.protect x.page.now) x.at (omega (arith, c.requires))
    ∙ rw (sym c.is_guarded_at.ensures ∙ c.if-not-is_guarded_at.false)))
