-- `state::setup::put` meets its contract.
use Rattle.std.specs.Prelude.{◌≡◌, length}
use mathlib.Core.Path.{sym}
use native.Mathlib.Omega.{arith}
use lib.Seq.{set_out}
use borrow.Author.Rules.{rules}
use Rattle.state.proofs.setup.put.Goals as goal

pub returns-else-at : goal.returns-else-at
returns-else-at g c =
    let e : length c.args.list ≡ g.row.N = search rules in
    sym (set_out c.args.list c.args.at c.args.v (omega (arith, e, c.if-at.false)))
