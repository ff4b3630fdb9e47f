-- `repaint::painter::put` meets its contract.
use native.Mathlib.Omega.{arith}
use Rattle.repaint.proofs.Forwards.{put_copied}
use Rattle.repaint.proofs.painter.put.Goals as goal

pub returns : goal.returns
returns c = put_copied _ _ c.args.bytes.now _ c.requires c.copy_from_slice.ensures.after (omega arith)
