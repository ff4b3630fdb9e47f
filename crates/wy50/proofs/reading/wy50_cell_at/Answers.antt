-- `wy50::reading::wy50_cell_at` meets its contract.
use Rattle.std.specs.Prelude.{◌≡◌, ℕ, Option, None, Some}
use Rattle.std.specs.Option.{unwrap_or}
use mathlib.Core.Path.{refl, ◌∙◌}
use Rattle.fields.specs.Given.{cell_given}
use Rattle.wy50.proofs.reading.wy50_cell_at.Goals as goal

or_none : (n : ℕ) (o : Option ℕ) → unwrap_or o n ≡ cell_given n o
unfolding cell_given
or_none n None = refl
or_none n (Some cell) = refl

pub returns : goal.returns
returns c = c.unwrap_or.ensures ∙ (or_none c.args.cells c.cell_at.result ∙ c.cell_at.ensures.by_rule)
