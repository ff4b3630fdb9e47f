-- `alert::stream::take` meets its contract.
use Rattle.alert.proofs.stream.take.Goals as goal

pub returns-then-byte-lt128 : goal.returns-then-byte-lt128
returns-then-byte-lt128 c = c.step.ensures

pub step_high-requires : goal.step_high-requires
step_high-requires c = c.requires

pub returns-else-byte-lt128 : goal.returns-else-byte-lt128
returns-else-byte-lt128 c = c.step_high.ensures
