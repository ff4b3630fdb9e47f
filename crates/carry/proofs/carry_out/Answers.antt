-- `carry::carry_out` meets its contract.
use mathlib.Core.Path.{refl, sym, ◌∙◌}
use Rattle.carry.proofs.Carrying.{carried_out, carried_beside}
use Rattle.carry.proofs.carry_out.Goals as goal

pub begin-requires : goal.begin-requires
begin-requires c = (c.requires.0, (c.requires.1.0, (c.requires.1.1, sym c.is_sending.ensures ∙ c.if-is_sending.true)))

pub returns-then-is_sending : goal.returns-then-is_sending
returns-then-is_sending c = c.begin.ensures

pub write_both-requires : goal.write_both-requires
write_both-requires c = (c.requires.0, (c.requires.1.0.one, (c.requires.1.0.two, c.requires.1.1)))

pub land-requires : goal.land-requires
land-requires c = (
  c.write_both.auto.page
      ∙ c.requires.0,
  (c.requires.1.0.screen, (c.requires.1.0.place, c.write_both.ensures.1)),
)

pub shape_of-page : goal.shape_of-page
shape_of-page c = c.write_both.auto.page

pub shape_of-rows : goal.shape_of-rows
shape_of-rows c = c.write_both.auto.rows

pub returns : goal.returns
returns c =
    let x = c.args in (
      carried_out x.page.now x.core x.plan x.room.now (sym c.is_sending.ensures ∙ c.if-is_sending.false)
          refl refl c.write_both.ensures.0 c.land.ensures,
      carried_beside x.page.now x.core x.plan
          x.room.now (sym c.is_sending.ensures ∙ c.if-is_sending.false) refl c.write_both.ensures.0
          c.write_both.ensures.1,
    )
