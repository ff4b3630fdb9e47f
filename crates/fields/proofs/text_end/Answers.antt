-- `fields::text_end` meets its contract.
use mathlib.Core.Path.{sym, ◌∙◌}
use native.Mathlib.Omega.{arith}
use Rattle.rules.specs.Fields.{text_of}
use Rattle.fields.proofs.text_end.Goals as goal

pub returns-then-trim : goal.returns-then-trim
unfolding text_of
returns-then-trim c = (c.trimmed_end.ensures.0, (c.trimmed_end.ensures.1.0, c.trimmed_end.ensures.1.1 ∙ sym (rw c.if-trim.true)))

pub returns-else-trim : goal.returns-else-trim
unfolding text_of
returns-else-trim c = (c.requires.0, (omega arith, sym (rw c.if-trim.false)))
