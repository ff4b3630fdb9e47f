-- `state::possible::all_text` meets its contract.
use Rattle.std.specs.Prelude.{◌≡◌, ◌<◌, ◌≤◌, length}
use mathlib.Core.Path.{sym, ◌∙◌}
use native.Mathlib.Omega.{arith}
use native.Mathlib.Numerals.{add-one}
use lib.Seq.{slice-cons, slice_empty}
use Rattle.rules.specs.Slot.{all_text}
use borrow.Author.Rules.{rules}
use Rattle.state.proofs.possible.all_text.Goals as goal

pub returns-then-not-is_text : goal.returns-then-not-is_text
unfolding all_text
returns-then-not-is_text c =
    let a = c.args in
    let x = c.loop-i in
    let h : x.i < a.n = omega arith in
    let k : a.n ≤ length a.bytes.now = search rules in
    sym (x.invariant.1 ∙ rw (
      slice-cons x.i a.n a.bytes.now 0 h k,
      ← c.is_text.ensures,
      c.if-not-is_text.true,
    ))

pub loop-i-preserved : goal.loop-i-preserved
unfolding all_text
loop-i-preserved c =
    let a = c.args in
    let x = c.loop-i in
    let h : x.i < a.n = omega arith in
    let k : a.n ≤ length a.bytes.now = search rules in (
      omega arith,
      x.invariant.1
          ∙ rw (
            slice-cons x.i a.n a.bytes.now 0 h k,
            ← c.is_text.ensures,
            c.if-not-is_text.false,
            add-one,
          ),
    )

pub returns : goal.returns
unfolding all_text
returns c =
    let x = c.loop-i in
    let i : x.i ≡ c.args.n = omega arith in
    sym (x.invariant.1 ∙ rw (i, slice_empty))
