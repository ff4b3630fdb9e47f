-- `terminal::run_rows` meets its contract.
use mathlib.Core.Path.{sym, ap, ◌∙◌}
use Rattle.rules.specs.declared.RunResult.{RunResult}
use Rattle.rules.specs.RowCalls.{rows_after}
use Rattle.terminal.proofs.Loop.{ran_is}
use Rattle.terminal.proofs.RowCalls.{beside_listed, run_listed, run_unlisted, rows_listed, rows_unlisted}
use Rattle.terminal.proofs.run_rows.Goals as goal

pub returns-then-not-is_listed : goal.returns-then-not-is_listed
returns-then-not-is_listed c =
    let x = c.args in
    let bad = sym c.is_listed.ensures ∙ c.if-not-is_listed.true in (
      ran_is c.refused.ensures (run_unlisted x.page.now x.rows.now x.state bad _ _),
      rows_unlisted x.page.now x.rows.now x.state
          ∙ ap (rows_after x.page.now x.rows.now x.state x.page.now) (sym (ap (λ (r : RunResult). r.state) c.refused.ensures)),
    )

pub run_beside-requires : goal.run_beside-requires
run_beside-requires c =
    let x = c.args in
    beside_listed x.page.now x.rows.now x.state (sym c.is_listed.ensures ∙ c.if-not-is_listed.false)

pub returns : goal.returns
returns c =
    let x = c.args in
    let fine = sym c.is_listed.ensures ∙ c.if-not-is_listed.false in
    let k = c.run_beside in (
      run_listed x.page.now x.rows.now x.state fine k.ensures.0,
      rows_listed x.page.now x.rows.now x.state fine k.result.state k.new.page k.new.rows k.auto.rows k.ensures.1,
    )
