-- `terminal::is_listed` meets its contract.
use Rattle.std.specs.Prelude.{◌≡◌, true}
use mathlib.Core.Path.{sym, ◌∙◌}
use Rattle.rules.specs.Possible.{good}
use Rattle.rules.proofs.Kept.{good_parts}
use Rattle.terminal.proofs.is_listed.Goals as goal

pub returns-then-not-is_good : goal.returns-then-not-is_good
returns-then-not-is_good c = rw (sym c.is_good.ensures ∙ c.if-not-is_good.true)

pub is_row_list-requires : goal.is_row_list-requires
is_row_list-requires c =
    let fine : good c.args.page.now c.args.state ≡ true =
    sym c.is_good.ensures ∙ c.if-not-is_good.false in
    (good_parts c.args.page.now c.args.state fine).0

pub returns : goal.returns
returns c =
    let fine : good c.args.page.now c.args.state ≡ true =
    sym c.is_good.ensures ∙ c.if-not-is_good.false in
    c.is_row_list.ensures ∙ rw fine
