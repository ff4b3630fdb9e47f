-- `counter::asking::ask` meets its contract.
use Rattle.counter.proofs.Questions.{asked_ready, asked_unready}
use Rattle.counter.proofs.asking.ask.Goals as goal

pub returns-then-ready : goal.returns-then-ready
returns-then-ready c = asked_ready c.args.page.now c.args.state c.if-ready.true c.run.ensures

pub returns-else-ready : goal.returns-else-ready
returns-else-ready c = asked_unready c.args.page.now c.args.state c.if-ready.false c.run-else-ready.ensures
