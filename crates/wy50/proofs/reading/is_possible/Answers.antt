-- `wy50::reading::is_possible` meets its contract.
use Rattle.rules.specs.Possible.{possible}
use Rattle.wy50.specs.Promise.{raw_possible}
use Rattle.wy50.specs.Raw.{named}
use Rattle.wy50.proofs.Options.{some_and}
use Rattle.wy50.proofs.reading.is_possible.Goals as goal

pub returns : goal.returns
unfolding raw_possible
returns c = some_and (named c.args.state) _ possible c.state_of.ensures c.is_some_and.ensures
