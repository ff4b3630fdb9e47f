-- `terminal::fast::moved` meets its contract.
use mathlib.Core.Path.{ap₂, ◌∙◌}
use Rattle.rules.specs.State.{with_screen}
use Rattle.terminal.proofs.fast.moved.Goals as goal

pub returns : goal.returns
returns c =
    rw c.if-same.false
    (c.with_screen.ensures ∙ ap₂ with_screen c.idle.ensures c.with_cursor.ensures)
