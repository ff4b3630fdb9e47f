-- `page::search::is_wide` meets its contract.
use native.Mathlib.Omega.{arith}
use borrow.Author.Tests.{eq-eqb, ne_eqb}
use Rattle.rules.specs.Row.{columns}
use Rattle.rules.specs.Fields.{page_width}
use Rattle.page.proofs.search.is_wide.Goals as goal

pub returns-in-1920 : goal.returns-in-1920
unfolding page_width columns
returns-in-1920 c = rw (eq-eqb _ 1920 c.in-1920.is)

pub returns-in-3168 : goal.returns-in-3168
unfolding page_width columns
returns-in-3168 c = rw (ne_eqb c.args.cells 1920 (λ e. omega (arith, e, c.in-3168.is)), eq-eqb _ 3168 c.in-3168.is)

pub returns-in_default : goal.returns-in_default
unfolding page_width
returns-in_default c =
    let none = c.in_default.in_default-own.rest in
    rw (ne_eqb c.args.cells 1920 none.0.1, ne_eqb c.args.cells 3168 none.1)
