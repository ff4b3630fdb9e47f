-- `saved::bytes::put_texts` meets its contract.
use native.Mathlib.Omega.{arith}
use Rattle.saved.specs.SetupBytes.{value_in}
use Rattle.saved.proofs.Puts.{text_begin, text_few, text_fits, text_go, text_finish}
use Rattle.saved.proofs.bytes.put_texts.Goals as goal

pub loop-i-init : goal.loop-i-init
loop-i-init c = let x = c.args.x in text_begin 0 x.end (value_in x.half x.first x.second) c.args.texts.now c.args.start c.args.out.now

pub put_text-n-requires : goal.put_text-n-requires
put_text-n-requires c =
    let x = c.args.x in
    let k = c.requires in
    let l = c.loop-i in (
      text_few k.0.0 x.end (value_in x.half x.first x.second) c.args.texts.now l.i k.0.1,
      text_fits k.0.0 x.end (value_in x.half x.first x.second) l.invariant c.value_of.ensures k.0.1 (omega arith) k.1.0,
    )

pub loop-i-preserved : goal.loop-i-preserved
loop-i-preserved c =
    let x = c.args.x in
    text_go 0 x.end (value_in x.half x.first x.second) c.loop-i.invariant c.value_of.ensures (omega arith) c.put_text-n.ensures c.put_text-n.auto.out

pub shape_of-out : goal.shape_of-out
shape_of-out c = c.loop-i.invariant.long

pub returns : goal.returns
returns c =
    let x = c.args.x in
    let k = c.requires in
    text_finish k.0.0 x.end (value_in x.half x.first x.second) c.loop-i.invariant k.0.1 (omega arith)
