-- `state::possible::message_ok` meets its contract.
use Rattle.std.specs.Prelude.{◌≡◌, length}
use native.Mathlib.Omega.{arith}
use borrow.Author.Tests.{le-leb, lt-leb}
use Rattle.rules.specs.Slot.{text_ok}
use borrow.Author.Rules.{rules}
use Rattle.state.proofs.possible.message_ok.Goals as goal

pub returns-then-t-gt46 : goal.returns-then-t-gt46
unfolding text_ok
returns-then-t-gt46 c = rw (lt-leb c.args.t.len 46 c.if-t-gt46.true)

pub all_text-requires : goal.all_text-requires
unfolding text_ok
all_text-requires c =
    let e : length c.args.t.bytes ≡ 46 = search rules in
    omega (arith, e, c.if-t-gt46.false)

pub returns : goal.returns
unfolding text_ok
returns c = rw (c.all_text.ensures, le-leb c.args.t.len 46 c.if-t-gt46.false)
