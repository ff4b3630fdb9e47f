-- `terminal::key::send` meets its contract.
use Rattle.std.specs.Prelude.{List, ℕ, ◌++◌, length, drop}
use mathlib.Core.Path.{ap}
use Rattle.rules.specs.Room.{over}
use Rattle.terminal.proofs.Calls.{text_sent, text_refused}
use Rattle.terminal.proofs.key.send.Goals as goal

pub returns-then-room-n : goal.returns-then-room-n
returns-then-room-n c = text_refused _ _ c.if-room-n.true

pub returns : goal.returns
unfolding over
returns c =
    let w = c.args.room.now in
    text_sent _ w c.if-room-n.false (ap (λ (l : List ℕ). l ++ drop (length c.args.text.now) w) c.copy_from_slice.ensures.after)
