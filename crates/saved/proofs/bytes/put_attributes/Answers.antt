-- `saved::bytes::put_attributes` meets its contract.
use mathlib.Core.Path.{◌≡◌}
use lib.ListN.{length}
use Rattle.saved.proofs.Puts.{attributes_put}
use borrow.Author.Rules.{rules}
use Rattle.saved.proofs.bytes.put_attributes.Goals as goal

pub returns : goal.returns
returns c =
    let l = c.args.a in
    let e : length l ≡ 4 = search rules in
    attributes_put l e c.put-m.ensures c.put.ensures
