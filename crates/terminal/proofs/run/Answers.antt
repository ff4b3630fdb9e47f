-- `terminal::run` meets its contract.
use mathlib.Core.Logic.{inl}
use Rattle.std.specs.Prelude.{false}
use mathlib.Core.Path.{refl, sym, ◌∙◌}
use Rattle.terminal.proofs.Calls.{run_refused}
use Rattle.terminal.proofs.Loop.{ran_is}
use Rattle.terminal.proofs.run.Goals as goal

pub returns-then-not-is_good : goal.returns-then-not-is_good
returns-then-not-is_good c = ran_is c.refused.ensures (run_refused _ _ (sym c.is_good.ensures ∙ c.if-not-is_good.true) false _ _)

pub run_beside-requires : goal.run_beside-requires
run_beside-requires c = (sym c.is_good.ensures ∙ c.if-not-is_good.false, inl refl)

pub returns : goal.returns
returns c = c.run_beside.ensures.0
