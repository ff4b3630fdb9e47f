-- `fields::next_start` meets its contract. The loop: the next start from here is the next from the first place.
use mathlib.Core.Path.{◌≡◌}
use lib.ListN.{length}
use Rattle.rules.specs.Row.{columns}
use Rattle.rules.specs.Search.{first_in}
use Rattle.rules.specs.Fields.{field_starts, next_start}
use Rattle.fields.proofs.next_start.Given as goal

abbrev pub invariant-loop-at : goal.invariant-loop-at
invariant-loop-at l =
    next_start (columns l.wide) l.page l.from ≡ first_in (field_starts (columns l.wide) l.page) l.at (length l.page)
