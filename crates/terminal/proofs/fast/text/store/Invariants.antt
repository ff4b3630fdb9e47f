-- `terminal::fast::text::store` meets its contract. The loop: the bytes from `from` up to i are stored in the cells from `first` up to `at`.
use Rattle.std.specs.Prelude.{◌≡◌, ◌-◌, ◌<◌, length}
use Rattle.terminal.specs.FastPath.{Passes}
use Rattle.terminal.proofs.Along.{Along}
use Rattle.terminal.proofs.fast.text.store.Given as goal

abbrev pub invariant-loop-i : goal.invariant-loop-i
invariant-loop-i l =
    (length l.page ≡ length l.initial.page)
    × ((l.at < length l.initial.page) × (Along l.first l.ground.end l.from (length l.input) l.last l.at l.i × Passes l.ground l.input l.first l.from l.initial.page l.at l.i l.page 0))

abbrev pub decreases-loop-i : goal.decreases-loop-i
decreases-loop-i l =
    l.last - l.i
