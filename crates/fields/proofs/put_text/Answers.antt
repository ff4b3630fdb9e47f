-- `fields::put_text` meets its contract.
use mathlib.Core.List.{map}
use native.Mathlib.Omega.{arith}
use lib.ListN.{length}
use lib.Seq.{slice}
use Rattle.rules.specs.Cell.{sent}
use Rattle.rules.specs.Fields.{text_of}
use Rattle.fields.specs.declared.Refusal.{Refusal}
use Rattle.fields.specs.Given.{refusal_number}
use Rattle.fields.proofs.Texts.{text_size, length_over}
use Rattle.fields.proofs.Reading.{read_as, refused, no_room, whole}
use Rattle.fields.proofs.put_text.Goals as goal

pub overflow_sub-to : goal.overflow_sub-to
overflow_sub-to c = c.text_end-to.ensures.0

pub returns-then-room-to : goal.returns-then-room-to
unfolding refusal_number
returns-then-room-to c =
    let x = c.args in
    let t = c.text_end-to.ensures in
    let k = c.requires in
    let n = text_size x.from c.text_end-to.result x.page.now (omega (arith, k, t.1.0)) in
    read_as (no_room (text_of x.trim x.from x.end x.page.now) (length x.room.now)
    (rw (← t.1.1) (omega (arith, n, c.if-room-to.true)))) (refused Refusal.NoRoom x.room.now)

pub put-requires : goal.put-requires
put-requires c =
    let t = c.text_end-to.ensures in
    let k = c.requires in
    (t.0, (omega (arith, k, t.1.0), (k.1.1, omega (arith, c.if-room-to.false))))

pub overflow_sub-result : goal.overflow_sub-result
overflow_sub-result c = c.text_end-to.ensures.0

pub shape_of-room : goal.shape_of-room
shape_of-room c =
    let x = c.args in
    let t = c.text_end-to.ensures in
    let k = c.requires in
    let n = text_size x.from c.text_end-to.result x.page.now (omega (arith, k, t.1.0)) in
    rw c.put.ensures
    (length_over (map sent (slice x.from c.text_end-to.result x.page.now)) x.room.now
    (omega (arith, n, c.if-room-to.false)))

pub returns : goal.returns
returns c =
    let x = c.args in
    let t = c.text_end-to.ensures in
    let k = c.requires in
    let n = text_size x.from c.text_end-to.result x.page.now (omega (arith, k, t.1.0)) in
    whole t.1.1 n (omega (arith, c.if-room-to.false)) c.put.ensures
