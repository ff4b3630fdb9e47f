-- `mend::is_attribute_cell` meets its contract.
use mathlib.Core.Path.{sym, ap, ◌∙◌}
use Rattle.rules.specs.declared.Personality.{Personality}
use Rattle.rules.specs.Writable.{is_attribute_cell}
use Rattle.mend.proofs.Judging.{no_flags, flags_50, flags_60}
use Rattle.mend.proofs.is_attribute_cell.Goals as goal

pub returns-else-is_flags : goal.returns-else-is_flags
returns-else-is_flags c = rw c.if-is_flags.false (no_flags c.args.personality c.args.v (sym c.is_flags.ensures ∙ c.if-is_flags.false))

pub returns-in-Wy50 : goal.returns-in-Wy50
returns-in-Wy50 c =
    flags_50 c.args.v (sym c.is_flags.ensures ∙ c.if-is_flags.true) ∙ sym (ap (λ (m : Personality). is_attribute_cell m c.args.v) c.in-Wy50.is)

pub returns-in-Wy60 : goal.returns-in-Wy60
returns-in-Wy60 c =
    flags_60 c.args.v (sym c.is_flags.ensures ∙ c.if-is_flags.true) ∙ sym (ap (λ (m : Personality). is_attribute_cell m c.args.v) c.in-Wy60.is)
