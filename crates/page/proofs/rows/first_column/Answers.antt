-- `page::rows::first_column` meets its contract.
use mathlib.Core.Path.{◌∙◌, sym}
use Prim.Native.Nat.{◌≤◌}
use native.Mathlib.Omega.{arith}
use lib.ListN.{length}
use Rattle.rules.specs.Search.{guarded_at, others}
use Rattle.rules.proofs.Searching.{length_guards, length_others, first_range}
use Rattle.page.proofs.RowSearch.{column_none, column_some}
use Rattle.page.proofs.rows.first_column.Goals as goal

pub returns-then-count-eq0 : goal.returns-then-count-eq0
returns-then-count-eq0 c = column_none _ (sym c.requires.1 ∙ c.if-count-eq0.true)

pub overflow_cast-result : goal.overflow_cast-result
overflow_cast-result c =
    let range : c.first_sought.result ≤ length c.args.part.now =
    let x = c.args in
    let g = guarded_at x.protect x.part.now in
    let n = length_others g ∙ length_guards x.protect x.part.now in
    omega (arith, c.first_sought.ensures, first_range (others g) 0 (length x.part.now) (omega arith) (omega arith)) in
    omega (arith, range, c.requires.0)

pub overflow_add-result : goal.overflow_add-result
overflow_add-result c =
    let range : c.first_sought.result ≤ length c.args.part.now =
    let x = c.args in
    let g = guarded_at x.protect x.part.now in
    let n = length_others g ∙ length_guards x.protect x.part.now in
    omega (arith, c.first_sought.ensures, first_range (others g) 0 (length x.part.now) (omega arith) (omega arith)) in
    omega (arith, range, c.requires.0)

pub returns : goal.returns
returns c =
    let x = c.args in
    column_some (guarded_at x.protect x.part.now) _ (length_guards x.protect x.part.now)
    (λ e. c.if-count-eq0.false (c.requires.1 ∙ e)) c.first_sought.ensures
