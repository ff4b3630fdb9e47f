-- `state::texts::text_of` meets its contract.
use Rattle.std.specs.Prelude.{◌≡◌, length}
use borrow.Author.Rules.{rules}
use Rattle.state.proofs.Gathered.{text_is}
use Rattle.state.proofs.texts.text_of.Goals as goal

pub returns : goal.returns
returns g c =
    let e : length c.args.gathered ≡ 46 = search rules in
    let t = text_is g.row.N c.args.n c.min-kept.result c.args.gathered e (cc) in
    cc
