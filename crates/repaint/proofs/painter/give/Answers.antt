-- `repaint::painter::give` meets its contract.
use Rattle.repaint.proofs.Proposing.{over_part}
use Rattle.repaint.proofs.painter.give.Goals as goal

pub returns : goal.returns
returns c =
    let k = c.requires.0 in (
      over_part _ _ _ k.1.0 c.copy_from_slice.ensures.after,
      (
        over_part _ _ _ k.1.1.0 c.copy_from_slice-2.ensures.after,
        (over_part _ _ _ k.1.1.1.0 c.copy_from_slice-3.ensures.after, over_part _ _ _ k.1.1.1.1 c.copy_from_slice-4.ensures.after),
      ),
    )
