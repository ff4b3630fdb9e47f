-- `carry::begin` meets its contract.
use native.Mathlib.Omega.{arith}
use mathlib.Core.Path.{refl}
use Rattle.carry.proofs.Carrying.{no_room, no_room_beside, begun_out, begun_beside}
use Rattle.carry.proofs.begin.Goals as goal

pub returns-then-is_empty : goal.returns-then-is_empty
returns-then-is_empty c =
    let x = c.args in (
      no_room x.page.now x.core x.plan x.room.now c.requires.1.1.1 (grind arith),
      no_room_beside x.page.now x.core x.plan
          x.room.now c.requires.1.1.1 (grind arith) c.requires.1.1.0,
    )

pub keep_list-requires : goal.keep_list-requires
keep_list-requires c = (c.requires.0, c.requires.1.1.0)

pub send-sent-requires : goal.send-sent-requires
send-sent-requires c = (c.requires.0, (c.requires.1.0.screen, (c.requires.1.0.reply, grind arith)))

pub returns : goal.returns
returns c =
    let x = c.args in (
      begun_out x.page.now x.core x.plan x.room.now c.requires.1.1.1 (grind arith) c.send-sent.ensures,
      begun_beside x.page.now x.core x.plan x.room.now c.requires.1.1.1 (grind arith) refl
          c.keep_list.ensures,
    )
