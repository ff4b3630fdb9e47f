-- `terminal::fast::text::insert` meets its contract. The loop: the bytes from `from` up to i are inserted at the cells from `first` up to `at`.
use Rattle.std.specs.Prelude.{◌<◌, true}
use mathlib.Core.Path.{refl, sym, ◌∙◌}
use native.Mathlib.Omega.{arith}
use Rattle.terminal.specs.FastPath.{none, acted, inserts}
use Rattle.terminal.proofs.Along.{next, along}
use Rattle.terminal.proofs.FastPaths.{fits_size, edited_page}
use Rattle.terminal.proofs.fast.text.insert.Goals as goal

pub loop-i-init : goal.loop-i-init
loop-i-init c =
    let p = c.requires in
    (refl, (omega (arith, p.1.0, p.0.inside), (record { begun = omega arith; even = refl; more = c.stop-last.ensures }, none)))

pub bounds-input-i : goal.bounds-input-i
bounds-input-i c = (next c.loop-i.invariant.1.1.0 c.loop-i-test.true).1

pub is_stored-requires : goal.is_stored-requires
is_stored-requires c =
    let l = c.loop-i in
    let p = c.requires in
    (fits_size p.0 l.invariant.0, (next l.invariant.1.1.0 c.loop-i-test.true).0)

pub returns-then-not-is_stored : goal.returns-then-not-is_stored
returns-then-not-is_stored c = c.loop-i.invariant.1.1.1

pub text_cell-v-requires : goal.text_cell-v-requires
text_cell-v-requires c = c.requires.0.base

pub returns-then-is_guarded : goal.returns-then-is_guarded
returns-then-is_guarded c = c.loop-i.invariant.1.1.1

pub shift_edit_run-requires : goal.shift_edit_run-requires
shift_edit_run-requires c =
    let l = c.loop-i in
    let p = c.requires in (l.invariant.0 ∙ p.0.whole, omega (arith, l.invariant.1.0, p.0.whole))

pub overflow_add-at : goal.overflow_add-at
overflow_add-at c = let p = c.requires in omega (arith, c.loop-i.invariant.1.0, p.0.size)

pub overflow_add-i : goal.overflow_add-i
overflow_add-i c =
    let tested : c.loop-i.i < c.stop-last.result =
    c.loop-i-test.true in
    let l = c.loop-i in omega (arith, (next l.invariant.1.1.0 (tested)).1, c.well_formed)

pub loop-i-preserved : goal.loop-i-preserved
loop-i-preserved c =
    let tested : c.loop-i.i < c.stop-last.result =
    c.loop-i-test.true in
    let l = c.loop-i in
    let p = c.requires in
    let k = next l.invariant.1.1.0 (tested) in
    let s = c.is_stored.ensures (c.if-not-is_stored.false) in
    let free = sym c.is_guarded.ensures ∙ c.if-is_guarded.false in
    let e = edited_page c.args.ground l.page true l.at c.text_cell-v.result c.shift_edit_run.ensures refl in (
      e.1 ∙ l.invariant.0,
      (
        omega (arith, k.0, p.0.inside),
        (
          along l.invariant.1.1.0,
          acted l.invariant.1.1.1 (inserts p.1.1.1 s c.text_cell-v.ensures free) (omega (arith, k.1)) k.0
              e.0,
        ),
      ),
    )

pub returns : goal.returns
returns c = c.loop-i.invariant.1.1.1
