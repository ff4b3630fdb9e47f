-- `state::possible::keys_ok` meets its contract. The loop: the keys from i on decide.
use Rattle.std.specs.Prelude.{◌≡◌, ◌<◌, [], length}
use mathlib.Core.Path.{sym, ◌∙◌}
use native.Mathlib.Omega.{arith}
use native.Mathlib.Numerals.{add-one}
use borrow.Author.Rules.{rules}
use lib.Seq.{drop-cons, drop-length}
use Rattle.rules.specs.Slot.{texts_ok}
use Rattle.state.proofs.possible.keys_ok.Goals as goal

pub returns-then-are_plain : goal.returns-then-are_plain
returns-then-are_plain c = sym (c.are_plain.ensures c.if-are_plain.true)

pub returns-then-not-short_ok : goal.returns-then-not-short_ok
unfolding texts_ok
returns-then-not-short_ok c =
    let x = c.loop-i in
    let keys = c.args.keys in
    let h : x.i < length keys = search rules in
    sym (x.invariant.1 ∙ rw (
      drop-cons keys x.i record { len = 0; bytes = [] } h,
      ← c.short_ok.ensures,
      c.if-not-short_ok.true,
    ))

pub loop-i-preserved : goal.loop-i-preserved
unfolding texts_ok
loop-i-preserved c =
    let x = c.loop-i in
    let keys = c.args.keys in
    let h : x.i < length keys = search rules in (
      omega arith,
      x.invariant.1 ∙ rw (
        drop-cons keys x.i record { len = 0; bytes = [] } h,
        ← c.short_ok.ensures,
        c.if-not-short_ok.false,
        add-one,
      ),
    )

pub returns : goal.returns
unfolding texts_ok
returns c =
    let x = c.loop-i in
    let i : length c.args.keys ≡ x.i = search rules in
    sym (x.invariant.1 ∙ rw (← i, drop-length))
