-- `page::change::shift` meets its contract.
use mathlib.Core.Path.{sym, ap, ◌∙◌}
use Prim.Native.Nat.{ℕ}
use Rattle.rules.specs.Change.{shifted}
use Rattle.page.proofs.Changes.{last_count}
use Rattle.page.proofs.change.shift.Goals as goal

pub shift_by-requires : goal.shift_by-requires
shift_by-requires c = rw c.in-1.is at c.requires.1

pub shift_by-requires-in-80 : goal.shift_by-requires-in-80
shift_by-requires-in-80 c = rw c.in-80.is at c.requires.1

pub shift_by-requires-in_default : goal.shift_by-requires-in_default
shift_by-requires-in_default c =
    let k = c.requires in
    let none = c.in_default.in_default-own.rest in
    rw (last_count k.0 none.0.1 none.1) at k.1

pub returns-in-1 : goal.returns-in-1
returns-in-1 c =
    let x = c.args in
    c.shift_by.ensures
    ∙ sym (ap (λ (k : ℕ). shifted x.right k x.value x.part.now) c.in-1.is)

pub returns-in-80 : goal.returns-in-80
returns-in-80 c =
    let x = c.args in
    c.shift_by-in-80.ensures
    ∙ sym (ap (λ (k : ℕ). shifted x.right k x.value x.part.now) c.in-80.is)

pub returns-in_default : goal.returns-in_default
returns-in_default c =
    let x = c.args in
    let k = c.requires in
    let none = c.in_default.in_default-own.rest in
    c.shift_by-in_default.ensures
    ∙ sym (ap (λ (k : ℕ). shifted x.right k x.value x.part.now) (last_count k.0 none.0.1 none.1))
