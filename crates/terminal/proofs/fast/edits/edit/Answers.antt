-- `terminal::fast::edits::edit` meets its contract.
use mathlib.Core.Path.{refl}
use Rattle.std.specs.Prelude.{true, false}
use native.Mathlib.Omega.{arith}
use Rattle.terminal.specs.FastPath.{clears_row, clears_rest}
use Rattle.terminal.proofs.FastPaths.{line_inside}
use Rattle.terminal.proofs.fast.edits.edit.Goals as goal

pub clear_segment-requires : goal.clear_segment-requires
clear_segment-requires c = c.requires.0

pub clear_segment-requires-in-59 : goal.clear_segment-requires-in-59
clear_segment-requires-in-59 c = c.requires.0

pub edit_row-requires : goal.edit_row-requires
edit_row-requires c = let p = c.requires in (p.1, (omega (arith, p.0.inside, p.0.size), p.0.most))

pub edit_cell-requires : goal.edit_cell-requires
edit_cell-requires c = c.requires

pub edit_row-requires-in-82 : goal.edit_row-requires-in-82
edit_row-requires-in-82 c = let p = c.requires in (p.1, (omega (arith, p.0.inside, p.0.size), p.0.most))

pub line_end-requires : goal.line_end-requires
line_end-requires c = let p = c.requires in omega (arith, p.1, p.0.inside, p.0.size)

pub clear-requires : goal.clear-requires
clear-requires c =
    let p = c.requires in (
      omega (arith, p.1, p.0.inside, p.0.size),
      rw c.line_end.ensures
          (line_inside p.0 p.1),
    )

pub edit_cell-requires-in-87 : goal.edit_cell-requires-in-87
edit_cell-requires-in-87 c = c.requires

pub clear-requires-in-89 : goal.clear-requires-in-89
clear-requires-in-89 c = let p = c.requires in (omega (arith, p.1, p.0.inside, p.0.size), omega (arith, p.0.inside, p.0.size))

pub reverse-requires : goal.reverse-requires
reverse-requires c =
    let p = c.requires in (
      p.1,
      (omega (arith, p.0.inside, p.0.size), (omega (arith, p.0.first), (omega (arith, p.0.rows, p.0.most), p.0.most))),
    )

pub line_end-requires-in-116 : goal.line_end-requires-in-116
line_end-requires-in-116 c = let p = c.requires in omega (arith, p.1, p.0.inside, p.0.size)

pub clear-requires-in-116 : goal.clear-requires-in-116
clear-requires-in-116 c =
    let p = c.requires in (
      omega (arith, p.1, p.0.inside, p.0.size),
      rw c.line_end-in-116.ensures
          (line_inside p.0 p.1),
    )

pub clear-requires-in-121 : goal.clear-requires-in-121
clear-requires-in-121 c = let p = c.requires in (omega (arith, p.1, p.0.inside, p.0.size), omega (arith, p.0.inside, p.0.size))

pub returns-in-58 : goal.returns-in-58
returns-in-58 c = c.clear_segment.ensures _ _ false refl c.in-58.is

pub returns-in-59 : goal.returns-in-59
returns-in-59 c = c.clear_segment-in-59.ensures _ _ true refl c.in-59.is

pub returns-in-69 : goal.returns-in-69
returns-in-69 c = c.edit_row.ensures _ _ c.in-69.is

pub returns-in-81 : goal.returns-in-81
returns-in-81 c = c.edit_cell.ensures _ c.in-81.is

pub returns-in-82 : goal.returns-in-82
returns-in-82 c = c.edit_row-in-82.ensures _ _ c.in-82.is

pub returns-in-84 : goal.returns-in-84
returns-in-84 c = rw (c.clear.ensures, c.line_end.ensures) (c.requires.1, clears_row true c.in-84.is)

pub returns-in-87 : goal.returns-in-87
returns-in-87 c = c.edit_cell-in-87.ensures _ c.in-87.is

pub returns-in-89 : goal.returns-in-89
returns-in-89 c = rw c.clear-in-89.ensures (c.requires.1, clears_rest true c.in-89.is)

pub returns-in-106 : goal.returns-in-106
returns-in-106 c = rw c.in-106.is (c.reverse.ensures _)

pub returns-in-116 : goal.returns-in-116
returns-in-116 c = rw (c.clear-in-116.ensures, c.line_end-in-116.ensures) (c.requires.1, clears_row false c.in-116.is)

pub returns-in-121 : goal.returns-in-121
returns-in-121 c = rw c.clear-in-121.ensures (c.requires.1, clears_rest false c.in-121.is)
