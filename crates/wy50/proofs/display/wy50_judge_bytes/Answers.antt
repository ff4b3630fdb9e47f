-- `wy50::display::wy50_judge_bytes` meets its contract.
use Rattle.wy50.proofs.Options.{none_is, some_is}
use Rattle.wy50.specs.Repainting.{RawBytesVerdict}
use Rattle.wy50.proofs.RepaintCalls.{bytes_named}
use Rattle.wy50.proofs.display.wy50_judge_bytes.Goals as goal

pub returns-in_default : goal.returns-in_default
returns-in_default c = RawBytesVerdict.unnamed (none_is _ _ c.in_default.ensures)

pub returns : goal.returns
returns c = let s = some_is _ c.in-Some.ensures in
    let x = c.args in
    bytes_named x.personality x.before.now x.after.now x.bytes.now s.0 s.1 c.judge_bytes.ensures c.number.ensures
