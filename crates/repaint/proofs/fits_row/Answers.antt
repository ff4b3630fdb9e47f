-- `repaint::fits_row` meets its contract. Assumes nothing.
use Rattle.std.proofs.Common.{arith}
use Rattle.std.proofs.lemmas.Bool.Decides.{nat_tests}
use Rattle.repaint.specs.Pass.{fits}
use Rattle.repaint.proofs.fits_row.Goals as goal

pub returns-then-s-ge1-3 : goal.returns-then-s-ge1-3
unfolding fits
returns-then-s-ge1-3 c = grind (arith, nat_tests)

pub returns-else-s-ge1-3 : goal.returns-else-s-ge1-3
unfolding fits
returns-else-s-ge1-3 c = grind (arith, nat_tests)
