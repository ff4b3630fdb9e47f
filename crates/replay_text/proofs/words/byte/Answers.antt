-- `replay_text::words::byte` is right.
use Rattle.std.proofs.Common.{arith}
use Rattle.replay_text.proofs.Hex.{word_few, word_many, word_two}
use Rattle.replay_text.proofs.words.byte.Goals as goal

pub returns-in-len2 : goal.returns-in-len2
returns-in-len2 c = word_two _ (omega arith) c.hex_byte.ensures

pub returns-in_default : goal.returns-in_default
returns-in_default c = word_few _ (omega arith)

pub returns-in_default-2 : goal.returns-in_default-2
returns-in_default-2 c = word_many _ (omega arith)
