-- `alert::message::message` meets its contract.
use Rattle.std.proofs.Common.{is_none, unwrap_or, sym, arith, length-take-le, rules}
use Rattle.alert.proofs.Messages.{room_kept, replied_within, message_is}
use Rattle.alert.proofs.message.message.Goals as goal

pub slice_bounds-reply-end : goal.slice_bounds-reply-end
slice_bounds-reply-end c = omega (arith, c.count_alert-a.ensures.fits)

pub slice_bounds-last_of-end : goal.slice_bounds-last_of-end
slice_bounds-last_of-end c = sym (length-take-le _ _ (replied_within c.count_alert-a.ensures))

pub slice_bounds-reply-end-2 : goal.slice_bounds-reply-end-2
slice_bounds-reply-end-2 c =
    omega (
      arith,
      c.count_alert-b.ensures.fits,
      room_kept
          c.count_alert-a.ensures,
    )

pub slice_bounds-sent-end : goal.slice_bounds-sent-end
slice_bounds-sent-end c = sym (length-take-le _ _ (replied_within c.count_alert-b.ensures))

pub returns : goal.returns
returns c =
    let x = c.args in
    message_is x.page.now x.state x.first (is_none x.last) (unwrap_or x.last 0)
    c.count_alert-a.ensures c.last_of-end.ensures c.count_alert-b.ensures
    c.sent.ensures (search rules)
