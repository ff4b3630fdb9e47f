-- `terminal::fast::escape` meets its contract.
use mathlib.Core.Path.{refl, sym, ◌∙◌}
use mathlib.Core.Bool.{false≢true}
use native.Mathlib.Omega.{arith}
use Rattle.terminal.specs.FastPath.{none, acted, refused, places, edits}
use Rattle.terminal.proofs.FastPaths.{nothing_written, edits_good, write_page}
use Rattle.terminal.proofs.fast.escape.Goals as goal

pub address-requires : goal.address-requires
address-requires c = let p = c.requires in (p.0, p.1.1)

pub overflow_add-result : goal.overflow_add-result
overflow_add-result c = omega (arith, c.in-Some.ensures.1.0, c.well_formed)

pub shape_of-page-in-Some : goal.shape_of-page-in-Some
shape_of-page-in-Some c = refl

pub returns-in-Some : goal.returns-in-Some
returns-in-Some c =
    let k = c.in-Some.ensures in
    (acted none (places k.1.1.0 k.1.1.1) k.1.0 k.0 (nothing_written c.args.ground _), λ z. refl)

pub is_outside-requires : goal.is_outside-requires
is_outside-requires c = let p = c.requires in (omega (arith, p.0.rows), (p.0.most, p.1.1))

pub overflow_add-result-then-is_outside : goal.overflow_add-result-then-is_outside
overflow_add-result-then-is_outside c = let o = c.is_outside.ensures c.if-is_outside.true in omega (arith, o.1.0, c.well_formed)

pub shape_of-page-then-is_outside : goal.shape_of-page-then-is_outside
shape_of-page-then-is_outside c = refl

pub returns-then-is_outside : goal.returns-then-is_outside
returns-then-is_outside c =
    let o = c.is_outside.ensures c.if-is_outside.true in
    (refused none o.1.1 o.1.0 refl, λ z. absurd (false≢true (sym o.0 ∙ z)))

pub overflow_add-i : goal.overflow_add-i
overflow_add-i c = omega (arith, c.requires.1.1.0, c.well_formed)

pub shape_of-page-then-input-i : goal.shape_of-page-then-input-i
shape_of-page-then-input-i c = refl

pub returns-then-input-i : goal.returns-then-input-i
returns-then-input-i c = (none, λ z. refl)

pub overflow_add-i-2 : goal.overflow_add-i-2
overflow_add-i-2 c = omega (arith, c.requires.1.1.0, c.well_formed)

pub bounds-input-i : goal.bounds-input-i
bounds-input-i c = omega (arith, c.if-input-i.false)

pub edit-requires : goal.edit-requires
edit-requires c = let p = c.requires in (p.0, p.1.0)

pub shape_of-page-in_default-edit : goal.shape_of-page-in_default-edit
shape_of-page-in_default-edit c = refl

pub returns-in_default-edit : goal.returns-in_default-edit
returns-in_default-edit c = (none, λ z. refl)

pub write-requires : goal.write-requires
write-requires c =
    let p = c.requires in
    (p.0.whole, edits_good p.0 p.1.0 c.in-Some-edit.ensures.1)

pub overflow_add-result-2 : goal.overflow_add-result-2
overflow_add-result-2 c = omega (arith, c.if-input-i.false, c.well_formed)

pub shape_of-page : goal.shape_of-page
shape_of-page c =
    let a = c.args in
    (write_page a.ground a.page.now c.in-Some-edit.act.write c.write.ensures refl).1

pub returns : goal.returns
returns c =
    let k = c.in-Some-edit.ensures in
    let page = (write_page c.args.ground c.args.page.now c.in-Some-edit.act.write c.write.ensures refl).0 in
    (acted none (edits c.requires.1.1.1 k.1) (omega (arith, c.if-input-i.false)) k.0 page, λ z. refl)
