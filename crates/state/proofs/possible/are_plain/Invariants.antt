-- `state::possible::are_plain` meets its contract. The loops: if the first 8 i and j keys are plain, those behind them decide.
use Rattle.std.specs.Prelude.{◌+◌, ◌*◌, ◌≤◌}
use Rattle.state.proofs.Plain.{Plain}
use Rattle.state.proofs.possible.are_plain.Given as goal

abbrev pub invariant-loop-j : goal.invariant-loop-j
invariant-loop-j l =
    Plain l.keys l.plain (8 * l.i + l.j) × (l.j ≤ 8)

abbrev pub invariant-loop-i : goal.invariant-loop-i
invariant-loop-i l =
    Plain l.keys l.plain (8 * l.i) × (l.i ≤ 4)
