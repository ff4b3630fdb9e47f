-- `mend::is_flags` meets its contract.
use mathlib.Core.Path.{sym, ◌∙◌}
use Rattle.mend.proofs.is_flags.Goals as goal

pub returns-then-is_between : goal.returns-then-is_between
returns-then-is_between c = rw (c.if-is_between.true, sym c.is_between.ensures ∙ c.if-is_between.true)

pub returns-else-is_between : goal.returns-else-is_between
returns-else-is_between c = rw (sym c.is_between.ensures ∙ c.if-is_between.false) c.is_between-else-is_between.ensures
