-- `terminal::inner::obey` meets its contract.
use Rattle.terminal.proofs.Carrying.{plan_good, plan_carried, list_asked, plan_beside}
use Rattle.terminal.proofs.inner.obey.Goals as goal

pub plan_for-plan-requires : goal.plan_for-plan-requires
plan_for-plan-requires c = let p = c.requires in rw c.idle-next.ensures (p.0, (p.1.0, p.1.1.0))

pub carry_out-requires : goal.carry_out-requires
carry_out-requires c =
    let x = c.args in
    let p = c.requires in
    let i = c.idle-next.ensures in
    let g = plan_good x.page.now x.core x.tabs x.d i c.plan_for-plan.ensures p.0 p.1.0 in
    (g.0, (g.1, list_asked x.page.now x.core x.tabs x.d i c.plan_for-plan.ensures p.0 p.1.0 p.1.1.1))

pub returns : goal.returns
returns c =
    let x = c.args in
    let p = c.requires in
    let i = c.idle-next.ensures in (
      plan_carried _ _ _ _ i c.plan_for-plan.ensures c.carry_out.ensures.0,
      plan_beside x.page.now x.core x.tabs x.d i c.plan_for-plan.ensures p.0 p.1.0 x.room.now c.carry_out.ensures.1,
    )
