-- `repaint::painter::is_text` meets its contract.
use Rattle.std.proofs.Common.{arith}
use Rattle.std.proofs.lemmas.Bool.Decides.{nat_tests}
use Rattle.repaint.specs.Proposal.{is_text}
use Rattle.repaint.proofs.painter.is_text.Goals as goal

pub returns-then-c-ge32 : goal.returns-then-c-ge32
unfolding is_text
returns-then-c-ge32 c = grind (arith, nat_tests)

pub returns-else-c-ge32 : goal.returns-else-c-ge32
unfolding is_text
returns-else-c-ge32 c = grind (arith, nat_tests)
