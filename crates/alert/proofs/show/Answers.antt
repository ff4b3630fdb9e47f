-- `alert::show` is safe and ends.
use Rattle.alert.proofs.show.Goals as goal

pub show-requires : goal.show-requires
show-requires g c = c.requires.0

pub show-requires-2 : goal.show-requires-2
show-requires-2 g c = c.requires.0

pub show_guarded-requires : goal.show_guarded-requires
show_guarded-requires g c = let k = c.requires in (k.0, (k.1.0, k.1.1))

pub show_message-requires : goal.show_message-requires
show_message-requires g c = (c.args.drawn.now, c.requires.1.1)
