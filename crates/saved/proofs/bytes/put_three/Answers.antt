-- `saved::bytes::put_three` meets its contract.
use Rattle.saved.specs.SetupBytes.{feature_bytes}
use Rattle.saved.proofs.bytes.put_three.Goals as goal

pub returns : goal.returns
unfolding feature_bytes
returns c = c.put.ensures
