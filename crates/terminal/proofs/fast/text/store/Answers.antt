-- `terminal::fast::text::store` meets its contract. The loop: the bytes from `from` up to i are stored in the cells from `first` up to `at`.
use mathlib.Core.Path.{refl}
use native.Mathlib.Omega.{arith}
use Rattle.terminal.specs.FastPath.{none, acted, stores}
use Rattle.terminal.proofs.Along.{next, along}
use Rattle.terminal.proofs.FastPaths.{fits_size, stored_page}
use borrow.Author.Rules.{rules}
use Rattle.terminal.proofs.fast.text.store.Goals as goal

pub loop-i-init : goal.loop-i-init
loop-i-init c =
    let p = c.requires in
    (refl, (omega (arith, p.1.0, p.0.inside), (record { begun = omega arith; even = refl; more = c.stop-last.ensures }, none)))

pub bounds-input-i : goal.bounds-input-i
bounds-input-i c = (next c.loop-i.invariant.1.1.0 c.loop-i-test.true).1

pub is_stored-requires : goal.is_stored-requires
is_stored-requires c =
    let l = c.loop-i in
    let p = c.requires in
    (fits_size p.0 l.invariant.0, (next l.invariant.1.1.0 c.loop-i-test.true).0)

pub returns-then-not-is_stored : goal.returns-then-not-is_stored
returns-then-not-is_stored c = c.loop-i.invariant.1.1.1

pub text_cell-requires : goal.text_cell-requires
text_cell-requires c = c.requires.0.base

pub loop-i-preserved : goal.loop-i-preserved
loop-i-preserved c =
    let l = c.loop-i in
    let k = next l.invariant.1.1.0 c.loop-i-test.true in
    let s = c.is_stored.ensures (c.if-not-is_stored.false) in
    let p = c.requires in
    let z = c.args.ground in (
      search rules,
      (
        omega (arith, k.0, p.0.inside),
        (
          along l.invariant.1.1.0,
          acted l.invariant.1.1.1 (stores p.1.1.1 s c.text_cell.ensures) (omega (arith, k.1)) k.0
              (stored_page z l.page l.at c.text_cell.result (omega (arith, l.invariant.0, l.invariant.1.0)) s.here),
        ),
      ),
    )

pub returns : goal.returns
returns c = c.loop-i.invariant.1.1.1
