-- `page::text::send_bytes` meets its contract.
use native.Mathlib.Omega.{arith}
use Rattle.std.specs.Prelude.{◌≡◌, ◌-◌, length, take, drop}
use mathlib.Core.Path.{◌∙◌}
use lib.ListN.{length-drop}
use lib.Seq.{take_all}
use Rattle.page.proofs.Sends.{part_copied, all_copied}
use Rattle.page.proofs.text.send_bytes.Goals as goal

pub returns-then-n-rest : goal.returns-then-n-rest
returns-then-n-rest c =
    let x = c.args in
    let w : take (length x.bytes.now - x.from) (drop x.from x.bytes.now) ≡ drop x.from x.bytes.now =
    take_all (length x.bytes.now - x.from) (drop x.from x.bytes.now) (rw (length-drop x.from x.bytes.now) (omega arith)) in
    part_copied x.reply x.bytes.now x.from x.room.now c.copy_from_slice.new.self c.min-n.result (c.copy_from_slice.ensures.after ∙ rw w) (omega arith) (omega arith)

pub returns : goal.returns
returns c =
    let x = c.args in
    let w : take (length x.bytes.now - x.from) (drop x.from x.bytes.now) ≡ drop x.from x.bytes.now =
    take_all (length x.bytes.now - x.from) (drop x.from x.bytes.now) (rw (length-drop x.from x.bytes.now) (omega arith)) in
    all_copied x.reply x.bytes.now x.from x.room.now c.copy_from_slice.new.self c.min-n.result (c.copy_from_slice.ensures.after ∙ rw w) (omega arith) (omega arith)
