-- `saved::bytes::put` meets its contract.
use native.Mathlib.Omega.{arith}
use Rattle.saved.proofs.Puts.{put_copied}
use Rattle.saved.proofs.bytes.put.Goals as goal

pub returns : goal.returns
returns c = put_copied _ _ c.args.bytes.now _ c.requires c.copy_from_slice.ensures.after (omega arith)
