-- `saved::bytes::put_features` meets its contract.
use Rattle.saved.proofs.Puts.{features_put, by_code_low, by_code_high}
use Rattle.saved.proofs.bytes.put_features.Goals as goal

pub returns-then-f-lt65 : goal.returns-then-f-lt65
returns-then-f-lt65 c =
    let l = c.args.f in features_put l _ _ _
    c.put-m.ensures (by_code_low l c.if-f-lt65.true)
    c.put_three.ensures

pub returns : goal.returns
returns c =
    let l = c.args.f in features_put l _ _ _
    c.put-m.ensures (by_code_high l c.if-f-lt65.false)
    c.put_three-2.ensures
