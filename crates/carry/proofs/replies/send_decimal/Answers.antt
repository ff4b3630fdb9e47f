-- `carry::replies::send_decimal` meets its contract.
use mathlib.Core.Path.{◌∙◌}
use Rattle.carry.proofs.replies.send_decimal.Goals as goal

pub returns : goal.returns
returns c =
    c.send_bytes.ensures
    ∙ rw (
      c.digit.ensures,
      c.digit-2.ensures,
      c.digit-3.ensures,
      c.digit-4.ensures,
      c.digit-5.ensures,
    )
