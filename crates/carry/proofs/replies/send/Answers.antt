-- `carry::replies::send` meets its contract. In each arm the send is the one that the match told.
use mathlib.Core.Path.{refl}
use native.Mathlib.Omega.{arith}
use Rattle.carry.proofs.Went.{went, went_none, short_went, text_went, text_needs, cursor_below}
use Rattle.carry.proofs.replies.send.Goals as goal

pub send_short-requires : goal.send_short-requires
send_short-requires c =
    let e = rw c.in-Short.is at c.requires.1.1.0 in
    (c.requires.0, (c.requires.1.0, (e.1, c.requires.1.1.1)))

pub overflow_add-to : goal.overflow_add-to
overflow_add-to c = omega (arith, cursor_below _ c.requires.1.0 c.cursor_of.ensures)

pub send_text-requires : goal.send_text-requires
send_text-requires c =
    let t = text_needs c.args.core.screen c.args.page.now c.requires.0 c.requires.1.0 c.requires.1.1.0 c.in-Text.is
    c.cursor_of.ensures in
    (t.0, (t.1.0, (t.1.1, c.requires.1.1.1)))

pub returns-in-Nothing : goal.returns-in-Nothing
returns-in-Nothing c =
    let x = c.args in
    went_none x.page.now x.core x.sending x.room.now c.in-Nothing.is

pub returns-in-Short : goal.returns-in-Short
returns-in-Short c =
    let x = c.args in
    went x.page.now x.core x.sending x.room.now
    (short_went x.page.now x.core x.room.now c.in-Short.is c.send_short.ensures)

pub returns-in-Text : goal.returns-in-Text
returns-in-Text c =
    let x = c.args in
    went x.page.now x.core x.sending x.room.now
    (text_went x.page.now x.core x.room.now c.in-Text.is refl c.cursor_of.ensures
    c.send_text.ensures)
