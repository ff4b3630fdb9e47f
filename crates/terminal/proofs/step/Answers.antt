-- `terminal::step` meets its contract.
use mathlib.Core.Logic.{inl}
use Rattle.std.specs.Prelude.{◌≡◌, true}
use mathlib.Core.Path.{refl, sym, ◌∙◌}
use Rattle.rules.specs.Possible.{good}
use Rattle.terminal.proofs.Calls.{step_refused}
use Rattle.terminal.proofs.step.Goals as goal

pub returns-then-not-is_good : goal.returns-then-not-is_good
returns-then-not-is_good c = step_refused _ _ (sym c.is_good.ensures ∙ c.if-not-is_good.true) _ _

pub step_beside-requires : goal.step_beside-requires
step_beside-requires c =
    let fine : good c.args.page.now c.args.state ≡ true =
    sym c.is_good.ensures ∙ c.if-not-is_good.false in
    (fine, inl refl)

pub returns : goal.returns
returns c = c.step_beside.ensures.0
