-- `carry::landing::settle_in` meets its contract.
use mathlib.Core.Path.{◌∙◌}
use native.Mathlib.Omega.{arith}
use Rattle.page.proofs.RowList.{listed}
use Rattle.carry.proofs.Settling.{settle_asked, rows_asked}
use Rattle.carry.proofs.landing.settle_in.Goals as goal

pub settle-requires : goal.settle-requires
settle-requires c =
    settle_asked c.args.x c.requires.1.0 c.requires.1.1.0 c.args.page.now c.requires.0 c.segment_start-first.ensures
    c.segment_end-end.ensures

pub returns-then-is_empty : goal.returns-then-is_empty
returns-then-is_empty c = c.settle.ensures ∙ rw (c.segment_start-first.ensures, c.segment_end-end.ensures)

pub settle_rows-requires : goal.settle_rows-requires
settle_rows-requires c =
    rows_asked c.args.x c.requires.1.0 c.requires.1.1.0 c.args.page.now c.requires.0 c.segment_start-first.ensures
    c.segment_end-end.ensures c.args.protect (listed _ _ c.requires.1.1.1 (grind arith))

pub returns : goal.returns
returns c = c.settle_rows.ensures ∙ rw (c.segment_start-first.ensures, c.segment_end-end.ensures)
