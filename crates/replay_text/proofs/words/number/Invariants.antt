-- `replay_text::words::number` is right. The invariant: the number is n after so many digits.
use Rattle.replay_text.proofs.Numbers.{Reading}
use Rattle.replay_text.proofs.words.number.Given as goal

abbrev pub invariant-loop-c : goal.invariant-loop-c
invariant-loop-c l =
    Reading l.word l.n l.c-index
