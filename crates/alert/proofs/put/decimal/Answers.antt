-- `alert::put::decimal` meets its contract.
use Rattle.alert.proofs.Puts.{decimal_put}
use Rattle.alert.proofs.put.decimal.Goals as goal

pub returns : goal.returns
returns c =
    let x = c.args in
    let digit' = c.digit in
    let wanted' = c.wanted-a in
    let digit2' = c.digit-2 in
    let wanted2' = c.wanted-b in
    let digit3' = c.digit-3 in
    let wanted3' = c.wanted-c in
    let digit4' = c.digit-4 in
    let byte' = c.byte in
    decimal_put x.v digit'.ensures digit2'.ensures digit3'.ensures digit4'.ensures wanted'.ensures wanted2'.ensures
    wanted3'.ensures byte'.ensures
