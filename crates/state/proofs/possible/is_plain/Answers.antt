-- `state::possible::is_plain` meets its contract.
use Rattle.std.specs.Prelude.{◌≡◌, length}
use borrow.Author.Rules.{rules}
use Rattle.state.proofs.Plain.{chained}
use Rattle.state.proofs.possible.is_plain.Goals as goal

pub returns : goal.returns
returns c =
    let size : length c.args.k.bytes ≡ 8 =
    search rules in
    let a = c.args in
    chained a.before a.k.len a.k.bytes (size) c.and-a.ensures c.and-b.ensures c.and-c.ensures
    c.and-d.ensures c.and-e.ensures c.and-f.ensures c.and-g.ensures c.and-h.ensures c.and.ensures
