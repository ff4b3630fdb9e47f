-- `wy50::display::put_spans` meets its contract.
use mathlib.Core.Path.{◌≡◌}
use mathlib.Core.List.{◌++◌}
use Prim.Native.Nat.{◌*◌}
use lib.ListN.{take, drop}
use Rattle.repaint.specs.Spans.{spans_of}
use Rattle.wy50.specs.Repainting.{span_numbers}
use Rattle.wy50.proofs.display.put_spans.Given as goal

abbrev pub invariant-loop-i : goal.invariant-loop-i
invariant-loop-i l =
    let first = span_numbers (spans_of (take l.n l.rows) (take l.n l.columns) (take l.n l.lengths)) in
    l.numbers ≡ take (3 * l.i) first ++ drop (3 * l.i) l.initial.numbers
