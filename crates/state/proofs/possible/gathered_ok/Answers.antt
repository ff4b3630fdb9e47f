-- `state::possible::gathered_ok` meets its contract.
use Rattle.std.specs.Prelude.{◌≡◌, length}
use native.Mathlib.Omega.{arith}
use borrow.Author.Tests.{le-leb, lt-leb}
use Rattle.rules.specs.Slot.{text_ok}
use Rattle.state.proofs.Gathered.{most_fits}
use borrow.Author.Rules.{rules}
use Rattle.state.proofs.possible.gathered_ok.Goals as goal

pub returns-then-slot_most-n : goal.returns-then-slot_most-n
unfolding text_ok
returns-then-slot_most-n c = rw (← c.slot_most.ensures, lt-leb c.args.n c.slot_most.result c.if-slot_most-n.true)

pub all_text-requires : goal.all_text-requires
unfolding text_ok
all_text-requires c =
    let e : length c.args.gathered ≡ 46 = search rules in
    omega (
      arith,
      c.if-slot_most-n.false,
      c.slot_most.ensures,
      most_fits
          c.args.x,
    )

pub returns : goal.returns
unfolding text_ok
returns c =
    rw (
      ← c.slot_most.ensures,
      le-leb c.args.n
          c.slot_most.result c.if-slot_most-n.false,
      c.all_text.ensures,
      c.slot_low.ensures,
    )
