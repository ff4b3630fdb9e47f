-- `page::cell::kind_of` meets its contract.
use native.Mathlib.Omega.{arith}
use Prim.Native.Nat.{◌/◌, ◌%◌}
use borrow.Author.Tests.{le-ltb}
use Rattle.page.specs.Kind.{kind_number}
use Rattle.page.proofs.cell.kind_of.Goals as goal

pub returns-in-0 : goal.returns-in-0
unfolding kind_number
returns-in-0 c = rw c.in-0.is

pub returns-in-1 : goal.returns-in-1
unfolding kind_number
returns-in-1 c = rw c.in-1.is

pub returns-in_default : goal.returns-in_default
unfolding kind_number
returns-in_default c =
    let none = c.in_default.in_default-own.rest in
    rw (le-ltb (c.args.v / 256 % 4) 2 (omega (arith, none)))
