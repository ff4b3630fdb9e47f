-- `counter::count_alert` meets its contract.
use Rattle.counter.proofs.Questions.{asks}
use Rattle.counter.proofs.count_alert.Goals as goal

pub returns : goal.returns
returns c =
    let x = c.args in
    asks x.page.now x.state x.first x.last c.ask-t.new.page x.room.now c.ask-t.new.room _ c.has_length-full.ensures c.is_ready-ready.ensures
    c.ask-t.ensures c.count-c.ensures c.is_cut-cut.ensures c.tell-told.ensures
