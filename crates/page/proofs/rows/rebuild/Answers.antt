-- `page::rows::rebuild` meets its contract.
use mathlib.Core.Logic.{⊎_elim}
use native.Mathlib.Omega.{arith}
use Rattle.page.proofs.rows.rebuild.Goals as goal

pub recount-requires : goal.recount-requires
recount-requires c =
    let p = c.requires in
    (p.0, (p.1, (omega arith, (omega arith, λ k h o. absurd (⊎_elim (λ a. omega arith) (λ a. omega arith) o)))))

pub returns : goal.returns
returns c = c.recount.ensures
