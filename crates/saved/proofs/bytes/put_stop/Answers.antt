-- `saved::bytes::put_stop` meets its contract.
use native.Mathlib.Omega.{arith}
use Rattle.saved.proofs.Puts.{stop_length, stop_put, stop_none}
use Rattle.saved.proofs.bytes.put_stop.Goals as goal

pub put-requires : goal.put-requires
put-requires c =
    omega (
      arith,
      stop_length c.args.column c.if-stop.true,
      c.requires,
    )

pub returns-then-stop : goal.returns-then-stop
returns-then-stop c = stop_put _ c.if-stop.true c.put.ensures

pub returns : goal.returns
returns c = stop_none _ _ _ c.if-stop.false
