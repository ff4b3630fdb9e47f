-- `page::search::is_sought` meets its contract.
use mathlib.Core.Path.{sym, ap, ◌∙◌}
use mathlib.Core.Bool.{not}
use native.Mathlib.Omega.{arith}
use Rattle.rules.specs.Search.{guarded_at}
use Rattle.rules.proofs.Searching.{open_at, length_guards}
use Rattle.page.proofs.search.is_sought.Goals as goal

pub returns-in-Open : goal.returns-in-Open
returns-in-Open c =
    let x = c.args in
    let n = length_guards x.protect x.page.now in
    rw c.in-Open.is (ap not c.is_guarded_at.ensures
    ∙ sym (open_at (guarded_at x.protect x.page.now) x.at (omega (arith, c.requires))))

pub returns-in-Guarded : goal.returns-in-Guarded
returns-in-Guarded c = rw c.in-Guarded.is c.is_guarded_at-in-Guarded.ensures

pub returns-in-FieldStart : goal.returns-in-FieldStart
returns-in-FieldStart c = rw c.in-FieldStart.is c.is_field_start.ensures
