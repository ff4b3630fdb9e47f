-- `terminal::bytes::run_beside` meets its contract. The loop: what the send and the bytes taken gave, and the repeated step on the rest, are the
-- whole run; and a row list beside the page is the page's.
use Rattle.std.specs.Prelude.{◌≡◌, ◌-◌, length}
use Rattle.rules.specs.State.{width_of}
use Rattle.rules.specs.Search.{guarded_at}
use Rattle.rules.specs.RowList.{Beside}
use Rattle.terminal.proofs.Loop.{Running, run_behind}
use Rattle.terminal.proofs.bytes.run_beside.Given as goal

abbrev pub invariant-loop-taken : goal.invariant-loop-taken
invariant-loop-taken l =
    Running l.stop l.initial.page (run_behind l.stop l.initial.page l.initial.c l.initial.g l.initial.u l.input l.initial.reply l.initial.replied) l.input l.initial.reply l.page l.reply l.c l.g l.u l.taken l.replied l.refused
    × (Beside (width_of l.c.screen) (guarded_at l.c.modes.protect l.page) l.rows × (length l.rows ≡ length l.initial.rows))

abbrev pub decreases-loop-taken : goal.decreases-loop-taken
decreases-loop-taken l =
    length l.input - l.taken
