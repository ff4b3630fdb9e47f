-- `page::search::are_guarded` meets its contract. The loop: where all are so far, each of them is.
use mathlib.Core.Path.{sym, ◌∙◌}
use mathlib.Core.Logic.{⊎_elim}
use native.Mathlib.Nat.{eq-or-lt_of_le}
use native.Mathlib.Omega.{arith}
use Rattle.page.proofs.search.are_guarded.Goals as goal

pub loop-i-init : goal.loop-i-init
loop-i-init c = (omega arith, λ e j h. absurd (omega arith))

pub loop-i-preserved : goal.loop-i-preserved
loop-i-preserved c =
    let l = c.loop-i in (
      omega arith,
      λ e j h. ⊎_elim
          (λ s. rw s (sym c.is_guarded_at.ensures ∙ (c.both-all.ensures e).1))
          (λ s. l.invariant.1 (c.both-all.ensures e).0 j s)
          (eq-or-lt_of_le {n = j} {m = l.i} (omega arith)),
    )

pub returns : goal.returns
returns c e j h = c.loop-i.invariant.1 e j (omega arith)
