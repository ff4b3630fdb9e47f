-- `alert::stream::obey` meets its contract.
use Rattle.std.proofs.Common.{length, refl, arith}
use Rattle.alert.proofs.Watching.{obeyed}
use Rattle.alert.proofs.stream.obey.Goals as goal

pub take-t-requires : goal.take-t-requires
take-t-requires c = c.requires.0

pub remember-requires : goal.remember-requires
remember-requires c =
    let k = c.requires in
    let take' = c.take-t in
    omega (arith, take'.auto, k)

pub shape_of-page : goal.shape_of-page
shape_of-page c =
    let take' = c.take-t in
    let remember' = c.remember in
    let finish' = c.finish in
    omega (arith, take'.auto, remember'.auto, finish'.auto)

pub shape_of-before : goal.shape_of-before
shape_of-before c =
    let take' = c.take-t in
    let remember' = c.remember in
    let finish' = c.finish in
    omega (arith, take'.auto, remember'.auto, finish'.auto)

pub shape_of-drawn : goal.shape_of-drawn
shape_of-drawn c =
    let take' = c.take-t in
    let remember' = c.remember in
    let finish' = c.finish in
    omega (arith, take'.auto, remember'.auto, finish'.auto)

pub shape_of-room : goal.shape_of-room
shape_of-room c =
    let take' = c.take-t in
    let remember' = c.remember in
    let finish' = c.finish in
    omega (arith, take'.auto, remember'.auto, finish'.auto)

pub shape_of-log : goal.shape_of-log
shape_of-log c =
    let take' = c.take-t in
    let remember' = c.remember in
    let finish' = c.finish in
    omega (arith, take'.auto, remember'.auto, finish'.auto)

pub returns : goal.returns
returns c =
    let x = c.args in
    let take' = c.take-t in
    let remember' = c.remember in
    let finish' = c.finish in
    obeyed (length x.room.now) x.byte x.page.now x.drawn.now x.p.state take'.ensures
    refl
    refl
    remember'.ensures
    (omega (arith, take'.auto)) finish'.ensures
