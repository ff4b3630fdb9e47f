-- `alert::guarded::line` meets its contract.
use Rattle.rules.specs.Row.{columns}
use Rattle.rules.proofs.Rows.{page_small, columns_width}
use Rattle.alert.proofs.Texts.{guarded_on, guarded_off}
use Rattle.std.proofs.Common.{arith}
use Rattle.alert.proofs.guarded.line.Goals as goal

pub returns-then-not-protect : goal.returns-then-not-protect
returns-then-not-protect c =
    let x = c.args in
    guarded_off (columns x.wide) x.drawn.now x.page.now x.protect c.if-not-protect.true

pub cells-requires : goal.cells-requires
cells-requires c =
    let k = c.requires in
    omega (arith, k, page_small (columns_width c.args.wide))

pub first_change-at-requires : goal.first_change-at-requires
first_change-at-requires c =
    let k = c.requires in
    (omega (arith, k), omega (arith, k, page_small (columns_width c.args.wide)))

pub change-requires : goal.change-requires
change-requires c =
    let k = c.requires in
    let first-change' = c.first_change-at in
    (first-change'.ensures.0, k.0)

pub returns : goal.returns
returns c =
    let x = c.args in
    let t1 = c.if-not-protect in
    let bytes' = c.bytes-a in
    let cells' = c.cells in
    let count' = c.count-b in
    let first-change' = c.first_change-at in
    let change' = c.change in
    guarded_on (columns x.wide) x.drawn.now x.page.now x.protect t1.false cells'.ensures first-change'.ensures.1
    bytes'.ensures count'.ensures change'.ensures
