-- `plan::windows::place` meets its contract.
use Rattle.std.specs.Prelude.{◌≡◌, true}
use mathlib.Core.Path.{sym, ◌∙◌}
use native.Mathlib.Omega.{arith}
use Rattle.rules.specs.Plan.{is_segment, window_plan}
use Rattle.plan.proofs.Segments.{segment_code, segment_rows}
use Rattle.plan.proofs.windows.place.Goals as goal

pub overflow_sub-n : goal.overflow_sub-n
unfolding window_plan
overflow_sub-n c =
    let named : is_segment c.args.core.screen c.args.n ≡ true =
    sym c.is_segment.ensures ∙ c.if-is_segment.true in
    let x = c.args in omega (arith, segment_code x.core.screen x.n (named))

pub address_plan-requires : goal.address_plan-requires
unfolding window_plan
address_plan-requires c =
    let named : is_segment c.args.core.screen c.args.n ≡ true =
    sym c.is_segment.ensures ∙ c.if-is_segment.true in
    rw c.activated.ensures (omega (arith, segment_rows c.args.core.screen c.args.n c.requires (named)))

pub returns-then-is_segment : goal.returns-then-is_segment
unfolding window_plan
returns-then-is_segment c = c.address_plan.ensures ∙ rw (c.activated.ensures, ← c.is_segment.ensures, c.if-is_segment.true)

pub returns : goal.returns
unfolding window_plan
returns c = c.refusing.ensures ∙ rw (← c.is_segment.ensures, c.if-is_segment.false)
