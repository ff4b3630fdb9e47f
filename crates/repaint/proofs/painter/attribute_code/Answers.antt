-- `repaint::painter::attribute_code` meets its contract.
use native.Mathlib.Omega.{arith}
use Rattle.repaint.proofs.Forwards.{code_low, code_high}
use Rattle.repaint.proofs.painter.attribute_code.Goals as goal

pub returns-then-attribute-lt16 : goal.returns-then-attribute-lt16
returns-then-attribute-lt16 c = code_low c.args.attribute c.if-attribute-lt16.true

pub returns : goal.returns
returns c = code_high c.args.attribute (omega (arith, c.if-attribute-lt16.false))
