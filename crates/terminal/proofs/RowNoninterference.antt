-- Demand 3 of the code with row lists: what calls whose promises hold give is what the rules give.
-- Assumes nothing.
use Rattle.std.specs.Prelude.{◌≡◌, ℕ, List}
use mathlib.Core.Path.{refl, ap, subst₂}
use Rattle.rules.specs.Calls.{Given, Called, of_step, of_run}
use Rattle.rules.specs.RowCalls.{Session, RowCall, row_call_rule, RowPlayed, row_after, row_play}
use Rattle.rules.specs.Theorems.RowNoninterference.{RowIndistinguishable}
use Rattle.rules.proofs.RowNoninterference.{row_noninterference}
use Rattle.terminal.specs.RowNoninterference.{RowMade, bare, list_stepped, list_ran, heard, rebuilt_rows, RowPerformed, none, next}
use Rattle.terminal.specs.RowNoninterference.{CodeRowNoninterference}
use Rattle.terminal.proofs.Noninterference.{front, made_is}

row_made_is : {x : Session} {p' l' : List ℕ} {c : RowCall} {g : Given} → RowMade x c g p' l'
    → row_call_rule x c ≡ record { called = record { given = g; page = p' }; rows = l' }
unfolding row_call_rule of_step of_run
row_made_is {x} (bare m) = ap (λ (r : Called). record { called = r; rows = x.rows }) (made_is m)
row_made_is (list_stepped {w = w} {w' = w'} {r = r} h e) =
    cc (h.answer, h.taken, h.state, h.replied, h.page, front _ w w' r.replied h.replied h.room, e)
row_made_is (list_ran {w = w} {w' = w'} {r = r} h e) =
    cc (h.answer, h.taken, h.replied, h.refused, h.rest, h.state, h.page, front _ w w' r.replied h.replied h.room, e)
row_made_is (heard {w = w} {w' = w'} {r = r} h e) =
    cc (h.answer, h.taken, h.replied, h.refused, h.rest, h.state, h.page, front _ w w' r.replied h.replied h.room, e)
row_made_is (rebuilt_rows h e) = cc (h.answer, e)

row_performed_is : {x : Session} {cs : List RowCall} {r : RowPlayed} → RowPerformed x cs r → row_play cs x ≡ r
unfolding row_play
row_performed_is none = refl
row_performed_is (next {g = g} {r = r} m h) = rw (row_made_is m) (ap (row_after _) (row_performed_is h))

pub code_row_noninterference : CodeRowNoninterference
code_row_noninterference p q l s calls a b on conceals alike free f g =
    subst₂ (RowIndistinguishable p q) (row_performed_is f) (row_performed_is g) (row_noninterference p q l s calls on conceals alike free)
