-- `repaint::painter::is_served` meets its contract.
use Rattle.std.proofs.Common.{arith}
use Rattle.std.proofs.lemmas.Bool.Decides.{nat_tests}
use Rattle.repaint.specs.Proposal.{served}
use Rattle.repaint.proofs.painter.is_served.Goals as goal

pub returns-then-is_all_text-2 : goal.returns-then-is_all_text-2
unfolding served
returns-then-is_all_text-2 c = grind (arith, nat_tests)

pub returns-else-is_all_text-2 : goal.returns-else-is_all_text-2
unfolding served
returns-else-is_all_text-2 c = grind (arith, nat_tests)
