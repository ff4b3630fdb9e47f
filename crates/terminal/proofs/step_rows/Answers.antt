-- `terminal::step_rows` meets its contract.
use mathlib.Core.Path.{sym, ◌∙◌}
use Rattle.terminal.proofs.RowCalls.{beside_listed, step_listed, step_unlisted, rows_listed, rows_unlisted}
use Rattle.terminal.proofs.step_rows.Goals as goal

pub returns-then-not-is_listed : goal.returns-then-not-is_listed
returns-then-not-is_listed c =
    let x = c.args in
    let bad = sym c.is_listed.ensures ∙ c.if-not-is_listed.true in
    (step_unlisted x.page.now x.rows.now x.state bad _ _, rows_unlisted x.page.now x.rows.now x.state)

pub step_beside-requires : goal.step_beside-requires
step_beside-requires c =
    let x = c.args in
    beside_listed x.page.now x.rows.now x.state (sym c.is_listed.ensures ∙ c.if-not-is_listed.false)

pub returns : goal.returns
returns c =
    let x = c.args in
    let fine = sym c.is_listed.ensures ∙ c.if-not-is_listed.false in
    let k = c.step_beside in (
      step_listed x.page.now x.rows.now x.state fine _ k.ensures.0,
      rows_listed x.page.now x.rows.now x.state fine k.result.state k.new.page k.new.rows k.auto.rows k.ensures.1,
    )
