-- `replay_text::words::number` is right. The invariant: the number is n after so many digits.
use Rattle.std.proofs.Common.{◌≡◌, ◌<◌, ◌∙◌, length, None, arith, rules}
use Rattle.replay_text.proofs.Numbers.{read_bad, read_large, read_on, read_end}
use Rattle.replay_text.proofs.words.number.Goals as goal

pub returns-in_err-n : goal.returns-in_err-n
returns-in_err-n c =
    let e : c.from_residual.result ≡ None = search rules in
    e ∙ read_bad c.loop-c.invariant c.loop-c-test.true c.decimal_digit.ensures c.in_err-n.was

pub returns-then-n-ge-LIMIT : goal.returns-then-n-ge-LIMIT
returns-then-n-ge-LIMIT c =
    read_large c.loop-c.invariant c.loop-c-test.true
    c.decimal_digit.ensures c.in_ok-n.was c.if-n-ge-LIMIT.true

pub loop-c-preserved : goal.loop-c-preserved
loop-c-preserved c =
    read_on c.loop-c.invariant c.loop-c-test.true
    c.decimal_digit.ensures c.in_ok-n.was c.if-n-ge-LIMIT.false

pub returns : goal.returns
returns c = let p : 0 < length c.args.word.now = search (rules, arith) in read_end c.loop-c.invariant p c.loop-c-test.false
