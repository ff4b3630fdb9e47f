-- `terminal::bytes::no_room` meets its contract.
use borrow.Author.Tests.{ne_eqb}
use Rattle.terminal.proofs.bytes.no_room.Goals as goal

pub returns-then-bytes-eq0 : goal.returns-then-bytes-eq0
returns-then-bytes-eq0 c = rw c.if-bytes-eq0.true

pub returns-else-bytes-eq0 : goal.returns-else-bytes-eq0
returns-else-bytes-eq0 c = rw (ne_eqb c.args.bytes 0 c.if-bytes-eq0.false)
