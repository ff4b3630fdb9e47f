-- `replay_text::words::hex_bytes` is right. The invariant: the first n bytes of the room are right.
use Rattle.replay_text.proofs.Hex.{Putting}
use Rattle.replay_text.proofs.words.hex_bytes.Given as goal

abbrev pub invariant-loop-n : goal.invariant-loop-n
invariant-loop-n l =
    Putting l.digits l.initial.room l.room l.n
