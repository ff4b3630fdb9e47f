-- `alert::stream::start` meets its contract.
use Rattle.alert.proofs.Starting.{narrow_on, at_width, wide_length, narrow_length}
use Rattle.alert.proofs.stream.start.Goals as goal

pub start_wide-requires : goal.start_wide-requires
start_wide-requires c = wide_length c.args.wide c.requires c.if-wide.true

pub returns-then-wide : goal.returns-then-wide
returns-then-wide c =
    at_width c.args.personality
    c.args.wide c.if-wide.true
    c.start_wide.ensures

pub start_narrow-requires : goal.start_narrow-requires
start_narrow-requires c = narrow_length c.args.wide c.requires c.if-wide.false

pub returns : goal.returns
returns c =
    at_width c.args.personality
    c.args.wide c.if-wide.false
    (narrow_on c.args.personality c.start_narrow.ensures.0
    c.start_narrow.ensures.1)
