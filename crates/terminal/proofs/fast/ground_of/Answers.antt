-- `terminal::fast::ground_of` meets its contract.
use Rattle.terminal.proofs.fast.ground_of.Goals as goal

pub returns : goal.returns
returns c =
    rw (
      c.scrolls.ensures,
      c.written_cell.ensures,
      c.segment_start.ensures,
      c.segment_end.ensures,
      c.segment_top.ensures,
      c.segment_bottom.ensures,
    )
