-- `replay_text::words::byte_string` is right.
use Rattle.std.proofs.Common.{arith, rules}
use Rattle.replay_text.proofs.Hex.{string_empty, string_dash, is_dash, string_other}
use Rattle.replay_text.proofs.words.byte_string.Goals as goal

pub returns-in-empty : goal.returns-in-empty
returns-in-empty c = string_empty _ (omega arith)

pub returns-in-45 : goal.returns-in-45
returns-in-45 c = string_dash _ (is_dash c.args.word.now (omega arith) (search rules))

pub returns-in_default : goal.returns-in_default
returns-in_default c = string_other _ (search rules) (search rules) c.hex_bytes.ensures
