-- `repaint::feeding::judge_bytes` meets its contract.
use mathlib.Core.Path.{refl, sym, ◌∙◌}
use native.Mathlib.Omega.{arith}
use lib.Seq.{length-take-le}
use Rattle.repaint.specs.Bytes.{BytesVerdict}
use Rattle.repaint.proofs.Passing.{no_width}
use Rattle.repaint.proofs.Leading.{pages_at, no_pages, taken_verdict, left_verdict}
use Rattle.repaint.proofs.feeding.judge_bytes.Goals as goal

pub returns-in_default : goal.returns-in_default
returns-in_default c =
    let x = c.args in
    BytesVerdict.wrong (no_pages x.before.now x.after.now _ refl (no_width _ _ c.in_default.ensures))

pub slice_bounds-scratch-end : goal.slice_bounds-scratch-end
slice_bounds-scratch-end c =
    let x = c.args in
    let e = c.in-Some.ensures in
    omega (arith, (pages_at x.before.now x.after.now _ e.1 (λ z. e.0 (sym e.1 ∙ z))).most)

pub slice_bounds-paints-end : goal.slice_bounds-paints-end
slice_bounds-paints-end c =
    let e = c.in-Some.ensures in
    sym (length-take-le _ _ (pages_at c.args.before.now c.args.after.now _ e.1 (λ z. e.0 (sym e.1 ∙ z))).most)

pub paints-requires : goal.paints-requires
paints-requires c =
    let x = c.args in
    let e = c.in-Some.ensures in
    let p = pages_at x.before.now x.after.now _ e.1 (λ z. e.0 (sym e.1 ∙ z)) in
    ((p.size, p.pages.alike), (length-take-le _ _ p.most, p.most))

pub returns-then-paints : goal.returns-then-paints
returns-then-paints c =
    let x = c.args in
    let e = c.in-Some.ensures in
    let p = pages_at x.before.now x.after.now _ e.1 (λ z. e.0 (sym e.1 ∙ z)) in
    taken_verdict x.personality x.before.now x.after.now x.bytes.now c.in-Some.width p
    c.paints.ensures c.if-paints.true

pub returns-else-paints : goal.returns-else-paints
returns-else-paints c =
    let x = c.args in
    let e = c.in-Some.ensures in
    let p = pages_at x.before.now x.after.now _ e.1 (λ z. e.0 (sym e.1 ∙ z)) in
    left_verdict x.personality x.before.now x.after.now x.bytes.now c.in-Some.width p
    c.paints.ensures c.if-paints.false
