-- `counter::text::stripped` meets its contract.
use Rattle.std.proofs.Common.{arith, rules}
use Rattle.counter.proofs.Texts.{strip_to}
use Rattle.counter.proofs.text.stripped.Goals as goal

pub returns-in-Some : goal.returns-in-Some
returns-in-Some c =
    strip_to c.args.cut c.args.text.now c.in-Some.i (omega (arith, c.in-Some.ensures.bound)) (search rules) (λ k a b. search rules)
