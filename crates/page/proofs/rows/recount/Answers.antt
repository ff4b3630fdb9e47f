-- `page::rows::recount` meets its contract. The loop: all rows but those to come are right.
use mathlib.Core.Path.{◌≡◌, ◌∙◌}
use native.Mathlib.Omega.{arith}
use Rattle.rules.specs.Search.{guarded_at}
use Rattle.rules.specs.Row.{columns}
use Rattle.page.proofs.RowList.{row_counted, all_counted}
use Rattle.page.proofs.rows.recount.Goals as goal

pub loop-row-init : goal.loop-row-init
loop-row-init c = let p = c.requires in (p.1.1.0, (mathlib.Core.Path.refl, p.1.1.1.1))

pub count_row-requires : goal.count_row-requires
count_row-requires c =
    let p = c.requires in
    let l = c.loop-row in
    (p.0, (l.invariant.1.0 ∙ p.1.0, omega (arith, c.loop-row-test.true, p.1.1.1.0)))

pub loop-row-preserved : goal.loop-row-preserved
loop-row-preserved c =
    let l = c.loop-row in
    let f = c.count_row in
    let x = c.args in (
      omega arith,
      (
        f.auto.rows ∙ l.invariant.1.0,
        rw f.ensures
            (row_counted (columns x.wide) (guarded_at x.protect x.page.now) l.rows (l.invariant.1.0 ∙ c.requires.1.0) l.row x.bottom
            c.loop-row-test.true c.requires.1.1.1.0 l.invariant.1.1),
      ),
    )

pub returns : goal.returns
returns c =
    let l = c.loop-row in
    let x = c.args in
    all_counted (columns x.wide) (guarded_at x.protect x.page.now) l.rows (l.invariant.1.0 ∙ c.requires.1.0) l.row x.bottom
    c.loop-row-test.false l.invariant.1.1
