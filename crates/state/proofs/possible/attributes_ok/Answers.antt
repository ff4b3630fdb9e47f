-- `state::possible::attributes_ok` meets its contract: the array is its four elements.
use Rattle.std.specs.Prelude.{◌≡◌, length}
use mathlib.Core.Path.{◌∙◌}
use Rattle.state.proofs.Tests.{both_true}
use Rattle.state.proofs.Lists.{elements}
use Rattle.rules.specs.Possible.{attributes_ok}
use borrow.Author.Rules.{rules}
use Rattle.state.proofs.possible.attributes_ok.Goals as goal

pub returns : goal.returns
unfolding attributes_ok
returns c =
    let e : length c.args.a ≡ 4 = search rules in
    c.and-2.ensures ∙ rw (
      c.and.ensures,
      c.and-second.ensures,
      c.is_attribute.ensures,
      c.is_attribute-2.ensures,
      c.is_attribute-3.ensures,
      c.is_attribute-4.ensures,
      elements 4 c.args.a e,
      both_true,
    )
