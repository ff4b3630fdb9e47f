-- Demand 3 with row lists (document 02, A5): "both terminals start with the same such list, and it counts among the modes".
use Rattle.std.specs.Prelude.{◌≡◌, true, false, List, ℕ}
use Rattle.rules.specs.declared.State.{State}
use Rattle.rules.specs.Theorems.Noninterference.{revealing, any_completed, AlikePages, Indistinguishable}
use Rattle.rules.specs.RowCalls.{RowCall, RowPlayed, row_play, bare_calls}

pub record RowIndistinguishable (p q : List ℕ) (a b : RowPlayed) : Type 0 where
  pub calls : Indistinguishable p q (record { given = a.given; state = a.session.state; page = a.session.page })
      (record { given = b.given; state = b.session.state; page = b.session.page })
  pub lists : a.lists ≡ b.lists
  pub rows : a.session.rows ≡ b.session.rows

-- the same list l, right or wrong; none of the six is completed by the calls that the first terminal's come to
abbrev pub RowNoninterference : Type 0
RowNoninterference =
    (p q l : List ℕ) (s : State) (calls : List RowCall) → s.core.modes.protect ≡ true → revealing s.sending ≡ false → AlikePages p q
    → any_completed (bare_calls calls (record { page = p; rows = l; state = s })) p s ≡ false
    → RowIndistinguishable p q (row_play calls (record { page = p; rows = l; state = s })) (row_play calls (record { page = q; rows = l; state = s }))
