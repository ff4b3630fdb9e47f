-- `fields::next_start` meets its contract.
use mathlib.Core.Path.{refl, sym, ◌∙◌}
use native.Mathlib.Omega.{arith}
use lib.ListN.{length}
use Rattle.rules.specs.Row.{columns}
use Rattle.rules.specs.Fields.{field_starts}
use Rattle.rules.proofs.Searching.{hit, miss}
use Rattle.rules.proofs.Fields.{length_starts, first_past}
use Rattle.fields.proofs.next_start.Goals as goal

pub loop-at-init : goal.loop-at-init
loop-at-init c = refl

pub returns-then-starts_field : goal.returns-then-starts_field
returns-then-starts_field c =
    let x = c.args in
    let l = c.loop-at in
    let m = field_starts (columns x.wide) x.page.now in
    let n = length_starts (columns x.wide) x.page.now in
    (omega arith, sym (l.invariant ∙ hit m l.at (length x.page.now) (omega arith) (omega arith) c.starts_field.ensures c.if-starts_field.true))

pub loop-at-preserved : goal.loop-at-preserved
loop-at-preserved c =
    let x = c.args in
    let l = c.loop-at in
    let m = field_starts (columns x.wide) x.page.now in
    let n = length_starts (columns x.wide) x.page.now in
    l.invariant ∙ miss m l.at (length x.page.now) (omega arith) (omega arith) c.starts_field.ensures c.if-starts_field.false

pub returns : goal.returns
returns c =
    let x = c.args in
    let l = c.loop-at in
    let n = length_starts (columns x.wide) x.page.now in
    omega (arith, l.invariant, first_past (field_starts (columns x.wide) x.page.now) l.at (length x.page.now) (omega arith) (omega arith))
